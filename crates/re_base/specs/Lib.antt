pub mod Causes
pub mod Told
pub mod FileFaults
pub mod Counts
pub mod MemFiles
pub mod MemSink
pub mod Watches

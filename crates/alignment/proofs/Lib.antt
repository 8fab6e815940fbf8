pub mod Rows
pub mod Moving
pub mod Laws
pub mod Samples

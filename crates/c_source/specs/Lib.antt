pub mod TextFaults
pub mod Unread
pub mod Reads
pub mod ReadsCondition

pub mod Unread
pub mod Answering
pub mod Functions
pub mod Conditions
pub mod Laws

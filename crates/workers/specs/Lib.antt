pub mod Ground
pub mod Found
pub mod Solved
pub mod Alone

pub mod Number
pub mod Counts
pub mod Moves
pub mod Laws

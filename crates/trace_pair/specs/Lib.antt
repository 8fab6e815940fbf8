pub mod Inputs
pub mod Pairs
pub mod Laws

pub mod Proves
pub mod Settles
pub mod Laws

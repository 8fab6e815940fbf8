pub mod Values
pub mod WordKinds
pub mod Left
pub mod Steps
pub mod Whole
pub mod Samples
pub mod Laws

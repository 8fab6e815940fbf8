pub mod Sums
pub mod Shapes
pub mod Telling
pub mod Proving
pub mod Laws
pub mod Samples

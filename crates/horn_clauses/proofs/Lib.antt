pub mod Nodes
pub mod Values
pub mod Equal
pub mod Negated
pub mod Shapes
pub mod Refuted
pub mod Laws
pub mod Samples

pub mod Refutes
pub mod Laws

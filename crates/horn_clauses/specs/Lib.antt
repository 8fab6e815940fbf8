pub mod Atom
pub mod Node
pub mod Family
pub mod Clause
pub mod Equalities
pub mod Obligations

pub mod Ring
pub mod Dots
pub mod Entries
pub mod Sizes
pub mod FormLemmas
pub mod Composing
pub mod Fitting
pub mod Signs
pub mod Divisors
pub mod TightLemmas
pub mod Rows
pub mod Laws
mod Samples

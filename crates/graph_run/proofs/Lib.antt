pub mod Fitting
pub mod Running
pub mod Judging
pub mod Tracing
pub mod Laws

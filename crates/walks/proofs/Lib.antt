pub mod Places
pub mod Taking
pub mod Reaching
pub mod Walking
pub mod Fitting
pub mod Laws
pub mod Samples

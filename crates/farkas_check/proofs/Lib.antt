pub mod Ring
pub mod Soundness
pub mod Wide
pub mod Adding
pub mod Idle
pub mod Laws
mod Samples

pub mod Side
pub mod Walk
pub mod Laws

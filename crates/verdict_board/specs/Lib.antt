pub mod Numbers
pub mod Views
pub mod Told
pub mod Rule
pub mod Passes
pub mod Laws

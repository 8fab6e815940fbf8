pub mod Grid
pub mod Words
pub mod Inputting
pub mod Asking
pub mod Answering
pub mod Laws
pub mod Samples

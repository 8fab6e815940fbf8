pub mod Step
pub mod Answers
pub mod Laws

pub mod Marks
pub mod Judging
pub mod Telling
pub mod OneOutcome

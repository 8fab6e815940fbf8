pub mod ConditionText
pub mod CommandLine
pub mod Refused
pub mod Read
pub mod Says

pub mod Event
pub mod Shown
pub mod Within

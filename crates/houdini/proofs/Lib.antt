pub mod Sublists
pub mod Within
pub mod Refuting
pub mod Strikes
pub mod Single
pub mod Asking
pub mod Turning
pub mod Ends
pub mod Complete
mod Samples
pub mod Cutting
pub mod Marking
pub mod Failing
pub mod EndRows
pub mod Turns

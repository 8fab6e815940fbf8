pub mod Totals
pub mod Tickets
pub mod Rules
pub mod Allowed
pub mod Numbers
pub mod Laws
mod Samples

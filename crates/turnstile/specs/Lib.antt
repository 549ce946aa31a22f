pub mod Histories
pub mod Views
pub mod Orderly
pub mod Steps
pub mod Passes
pub mod Turns
pub mod Seats

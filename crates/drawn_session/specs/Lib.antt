pub mod Records
pub mod Draws
pub mod Requests
pub mod Line

pub mod HeaderText
pub mod Reading
pub mod Stream
pub mod Hashes
pub mod Written

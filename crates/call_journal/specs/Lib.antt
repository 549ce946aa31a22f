pub mod Words
pub mod Journal

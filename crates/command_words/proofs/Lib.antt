mod Words
mod Walks
mod Rows
pub mod Reading
pub mod Spelling
pub mod ReadValues
pub mod Plans

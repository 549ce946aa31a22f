pub mod Fields
pub mod Marks
pub mod Counts
pub mod Streams

mod Names
mod Strings
mod Loops
pub mod Reading
mod Counting

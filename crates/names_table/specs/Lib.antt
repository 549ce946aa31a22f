pub mod Names
pub mod Strings
pub mod Entries
pub mod Reading
pub mod Buckets
pub mod Text

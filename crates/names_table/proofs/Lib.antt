pub mod Offsets
pub mod Strings
mod Reading
mod FreeBuckets
mod Texts
mod Lookups
mod Leading
pub mod Growing

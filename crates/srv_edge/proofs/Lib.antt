mod Cutting
pub mod Filling
pub mod Numbers
pub mod Streams
pub mod Moments
pub mod Ranges
mod Padded
mod Replaying
pub mod Settled
pub mod Exchanging
mod Existing
pub mod Versions
mod Window

pub mod Moments
pub mod Joining
pub mod Superblocks
pub mod Listed
pub mod Directories
pub mod Searching
mod Opening
pub mod Relating
pub mod Sparing
pub mod Giving
pub mod Laying
pub mod PackedStreams
pub mod PackedFile
pub mod PackedLoops
pub mod Sizes

pub mod Bits
pub mod Blocks
pub mod Edit
pub mod Superblock
pub mod Judging

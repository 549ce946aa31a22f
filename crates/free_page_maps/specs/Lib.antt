pub mod FreeBlocks
pub mod MapText
pub mod Lowest

mod Heads
pub mod Walk
mod Linking

pub mod Runs
pub mod Steps
pub mod Storing
pub mod Changing
pub mod Creating

pub mod Change
pub mod Stored
pub mod Writing
pub mod Left
pub mod Fault

pub mod Bounds
pub mod Tables
pub mod Calls
pub mod Cut
pub mod File
pub mod Plain
pub mod Extends

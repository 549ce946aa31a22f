pub mod Kinds
pub mod Leaf
pub mod Rows
pub mod Found
pub mod Visits
pub mod Tag
pub mod Tags
pub mod Spelled

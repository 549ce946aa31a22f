pub mod Faults
pub mod Reads
pub mod Relation
pub mod Packed
pub mod Spelled

pub mod Edits
pub mod Supply
pub mod Layout
pub mod Planned
pub mod Plan
pub mod Freeing
pub mod Packing

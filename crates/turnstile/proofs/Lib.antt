pub mod Counts
pub mod Beginnings
pub mod Standing
pub mod Turns
pub mod Tellings
pub mod Passing
pub mod Crossing

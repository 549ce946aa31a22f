pub mod Rooms
pub mod Steps
pub mod SeenLemmas
pub mod Lying
pub mod Rewriting
pub mod Fielded

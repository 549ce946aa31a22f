pub mod Tables
pub mod Course
pub mod Commits
pub mod Standing
pub mod Served
pub mod Sharing

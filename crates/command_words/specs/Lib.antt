pub mod Lines
pub mod Spelling
pub mod Commands
pub mod Values
pub mod Forms

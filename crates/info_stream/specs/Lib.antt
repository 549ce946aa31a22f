pub mod Reading
pub mod Named
pub mod Text
pub mod Words

pub mod Hash
pub mod Record

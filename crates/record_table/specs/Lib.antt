pub mod Table
pub mod Buckets

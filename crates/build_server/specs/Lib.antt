pub mod Server
pub mod Workers

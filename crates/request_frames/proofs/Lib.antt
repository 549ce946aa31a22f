mod Counting
pub mod Ends
pub mod Following
pub mod Framing
pub mod Listing
mod OneRequest
mod OneTurn
mod Refusing
pub mod Serving
pub mod Turns
mod Finishing
pub mod Mapping

mod Places
pub mod Growing
mod Missing
pub mod Answered
pub mod Sound
pub mod Filing
pub mod Allowed
mod Holding
mod Running
mod Later
mod Own
mod Committing
pub mod Replying
pub mod Acknowledging
pub mod Extending
mod Smooth
mod Placing
mod Adding
mod Leading
mod Tracing
mod Showing
mod Judging
mod Idle
pub mod Open

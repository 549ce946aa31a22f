mod Lists
mod NoFault
mod Growing
mod Leaving
pub mod Course
mod Refused
mod Answering
mod Passing
mod Ending
pub mod Sharing
mod Leaves
mod Listing

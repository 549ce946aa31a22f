pub mod Lists
pub mod Requests
pub mod Refusals
pub mod Replies
pub mod Talk
pub mod Session
pub mod Next
pub mod Serving

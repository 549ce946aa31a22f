mod Passes
mod Leaving
mod Causes
mod Sending

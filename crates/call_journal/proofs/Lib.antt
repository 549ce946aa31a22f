pub mod Decoding
mod Pages

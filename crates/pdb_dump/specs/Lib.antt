pub mod Container
pub mod Dump

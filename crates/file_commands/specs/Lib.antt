pub mod Run
pub mod Session
pub mod Printed
pub mod Making
pub mod Drawn

pub mod Counting
pub mod Searching
pub mod Records
pub mod Strings
pub mod NoFault
pub mod Leaves

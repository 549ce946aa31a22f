pub mod Masks
pub mod Scanning
pub mod Listing
pub mod MapTexts

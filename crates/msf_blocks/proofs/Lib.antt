pub mod BitWrites
pub mod Numbers
pub mod Sizes
pub mod Judging
pub mod Passing
pub mod SuperblockTexts
pub mod Runs

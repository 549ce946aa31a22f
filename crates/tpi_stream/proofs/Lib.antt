pub mod RecordLists
pub mod Offsets
pub mod Joining
pub mod HeaderTexts
pub mod Streams
pub mod WrittenStreams
pub mod Growing

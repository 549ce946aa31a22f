pub mod Table
pub mod RecordLemmas
pub mod Four

pub mod DifferingLaws
pub mod LinkLaws
pub mod NameLaws
pub mod NamedLaws
pub mod OfNames
pub mod ReaderLaws
pub mod RecordLaws
pub mod RunLaws

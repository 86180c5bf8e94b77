pub mod OrderLemmas
pub mod SpotLemmas
pub mod TableLemmas
pub mod MetadataLemmas

pub mod ShownLemmas
pub mod RecordLemmas
pub mod DenialLemmas
pub mod ActionLemmas

pub mod DenialLemmas
pub mod KeptLemmas

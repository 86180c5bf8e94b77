pub mod LineLemmas
pub mod ReadingLemmas
pub mod SendingLemmas
pub mod Coming
pub mod Kept

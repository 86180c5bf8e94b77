pub mod CarryLemmas
pub mod ChainLemmas
pub mod LoadedLemmas
pub mod NarrowLemmas
pub mod PlaceLemmas
pub mod PlacingLemmas
pub mod ReadingLemmas
mod SortLemmas
pub mod TextLemmas

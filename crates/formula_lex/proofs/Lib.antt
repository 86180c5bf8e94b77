pub mod ClassLemmas
pub mod Complete
pub mod Sound
pub mod PlaceLemmas
pub mod Turns
pub mod Clauses

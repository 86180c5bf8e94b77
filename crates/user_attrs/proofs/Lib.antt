pub mod AttributeLemmas
pub mod LawLemmas
pub mod LeastLemmas
pub mod PlacedLemmas
pub mod WalkLemmas

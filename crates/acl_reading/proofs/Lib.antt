pub mod ChoosingLemmas
pub mod HiddenLemmas
pub mod LawLemmas
pub mod LettingLemmas
pub mod WalkLemmas

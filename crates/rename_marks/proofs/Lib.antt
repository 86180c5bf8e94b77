pub mod NotedLemmas
pub mod WalkLemmas
pub mod KeyLemmas

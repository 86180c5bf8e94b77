pub mod PlaceLemmas
pub mod SeenLemmas
pub mod ValueLemmas

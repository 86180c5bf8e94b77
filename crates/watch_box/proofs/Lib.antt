pub mod TellingLemmas
mod NumberLemmas

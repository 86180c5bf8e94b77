pub mod Notes
pub mod Alike
pub mod BothAlike
pub mod MatchedAlike
pub mod EvAlike
pub mod ReadsAlike
pub mod Named
pub mod Obeys
pub mod TextLaws
pub mod Collects
mod Scans
mod Items
mod ItemsRead
mod Lookups
mod LookupEnds
mod Halts
mod SumLemmas
mod BestLemmas
mod Traps

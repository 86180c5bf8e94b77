pub mod AlteredLemmas
mod GoneLemmas
mod MovedLemmas
pub mod RefreshedLemmas
pub mod SpentLemmas
pub mod StartLemmas
pub mod TouchedLemmas
pub mod UpdateLemmas
mod ValueLemmas
pub mod BackLemmas

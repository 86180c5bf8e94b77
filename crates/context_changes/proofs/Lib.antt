mod BundleLemmas
mod DifferingLemmas
pub mod KnownLemmas
pub mod RenewalLemmas
mod ToldLemmas
pub mod UserLemmas
mod ZipLemmas

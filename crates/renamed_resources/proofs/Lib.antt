pub mod BaseLemmas
mod LengthLemmas
mod TextLemmas

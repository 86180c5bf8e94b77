pub mod Reopening
pub mod PrintableLemmas

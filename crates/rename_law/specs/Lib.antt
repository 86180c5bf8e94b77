pub mod Judged
pub mod KeepsAll

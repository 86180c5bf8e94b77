pub mod Peeks
pub mod Answers

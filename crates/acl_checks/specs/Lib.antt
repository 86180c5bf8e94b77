pub mod BeforeStep
pub mod Checks
pub mod Denials
pub mod Kept
pub mod Rows
pub mod Unchecked

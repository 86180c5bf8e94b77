pub mod Histories
pub mod Rises

pub mod Past
pub mod Shots
pub mod Rule
pub mod Views

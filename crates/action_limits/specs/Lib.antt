pub mod Tallies
pub mod Capped
pub mod Brought
pub mod Grown
pub mod Left
pub mod Updated

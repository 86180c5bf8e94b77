pub mod Altering
pub mod Gone
pub mod Moved
pub mod Spent
pub mod Touching
pub mod Update
pub mod WayBack

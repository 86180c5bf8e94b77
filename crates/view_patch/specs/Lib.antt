pub mod Given
pub mod Sources
pub mod Placed
pub mod Acts
pub mod Faults

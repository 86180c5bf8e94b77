pub mod Parts
pub mod Spot

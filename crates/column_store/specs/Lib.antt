pub mod Crossed
pub mod Kept
pub mod Changes
pub mod Reshaped
pub mod Back
pub mod Schema
pub mod New

pub mod Draws
pub mod Script
pub mod Left
pub mod Stages
pub mod Made

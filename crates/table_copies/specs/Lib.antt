pub mod Alike
pub mod Copies

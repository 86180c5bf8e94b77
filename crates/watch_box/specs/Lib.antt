pub mod Taking
pub mod Watching
pub mod Watchers
pub mod SpareLines

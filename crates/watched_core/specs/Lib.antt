pub mod Watched
pub mod Telling

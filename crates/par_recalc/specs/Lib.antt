pub mod Attempts
pub mod LevelLaws
pub mod Levels
pub mod Naming
pub mod Numbers
pub mod Plan
pub mod Rounds

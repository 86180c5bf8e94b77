pub mod Characters
pub mod Signs
pub mod Spelling
pub mod Places
pub mod Classes
pub mod Machine
pub mod Lexed
pub mod Message

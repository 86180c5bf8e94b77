pub mod Places
pub mod ShotDocument
pub mod Changes

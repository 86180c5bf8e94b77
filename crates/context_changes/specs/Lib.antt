pub mod Told
pub mod ToldLaws
pub mod Bundle
pub mod Users
pub mod Known
pub mod Renewal
pub mod Differing

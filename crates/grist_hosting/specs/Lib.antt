pub mod Summary
pub mod Hosting
pub mod HostingParts
pub mod Complete

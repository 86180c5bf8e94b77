pub mod Stops
pub mod Open
pub mod Reached
pub mod Closed
pub mod Laws
pub mod SeenLaws

pub mod History
pub mod Views
pub mod Known
pub mod Rule
pub mod Steps
pub mod Call
pub mod Seats
pub mod Gate

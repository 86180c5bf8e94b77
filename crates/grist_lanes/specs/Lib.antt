pub mod SessionNames
pub mod Sessions
pub mod Services
pub mod LaneEnds
pub mod Handed
pub mod InHistory
pub mod FullEnds
pub mod Places

pub mod NameLists
pub mod Renamed
pub mod LengthLaw

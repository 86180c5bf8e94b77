pub mod HeldRecords
pub mod PlainNames
pub mod RecordsLaw
pub mod SameEv
pub mod SameSheet
pub mod TypedSheet
pub mod Resolved

pub mod SeeAlike
pub mod RecordsLaws

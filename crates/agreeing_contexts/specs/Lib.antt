pub mod Fields
pub mod Agreement
pub mod AgreementLaws
pub mod Rows
pub mod Told

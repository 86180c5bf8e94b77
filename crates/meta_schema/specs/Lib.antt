pub mod Agreement
pub mod AgreementLaw
pub mod Decoding
pub mod Names
pub mod SchemaLaw

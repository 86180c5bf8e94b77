pub mod AgreementExact
pub mod AgreementWalks
pub mod DescribedLemmas
pub mod LookupLemmas
pub mod SaidLemmas
pub mod SchemaLawLemmas
pub mod TextLemmas
pub mod WholeAgrees
mod AsTold

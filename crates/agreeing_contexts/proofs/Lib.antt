mod FieldLemmas
mod ItemLemmas
mod LoadedLemmas
pub mod AgreementLemmas

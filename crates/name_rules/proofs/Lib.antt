pub mod FreeNumbers
pub mod FreshNames
mod NameCharacters
mod NameLemmas
pub mod NumberedNames

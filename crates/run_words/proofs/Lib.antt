mod OptionLemmas
mod AuditLemmas
pub mod SaidOptions
pub mod ClapLemmas
pub mod ReplayLemmas
mod CommandLemmas

pub mod Uses
pub mod Scope
pub mod ScopeUses
pub mod Marks
pub mod Noted

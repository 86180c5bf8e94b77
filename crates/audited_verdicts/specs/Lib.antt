pub mod SchemaActionsLaw
pub mod ClosedLaw
pub mod AuditLaw

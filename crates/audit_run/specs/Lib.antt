pub mod AuditLines
pub mod AuditRuns

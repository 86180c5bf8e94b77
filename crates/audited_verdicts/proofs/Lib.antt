pub mod ClosedAnswer
pub mod FollowingSteps
pub mod LaterDenials
pub mod SchemaLemmas
pub mod VerdictLemmas

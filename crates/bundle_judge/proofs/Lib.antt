pub mod CreatedLemmas
pub mod CarriedLemmas
pub mod CheckLemmas
pub mod JudgmentLemmas
pub mod TakeLemmas
pub mod RollbackLemmas
pub mod StepLemmas
pub mod UndoneLemmas
mod LossLemmas
mod ToldLemmas

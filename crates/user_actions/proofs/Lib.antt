pub mod AllowedLemmas
pub mod ApartLemmas
pub mod ClearedLemmas
mod FitLemmas
mod FittedLemmas
mod FreshIdsLemmas
mod InfoLemmas
mod ColumnLemmas
pub mod LedLemmas
pub mod ResourceLemmas
mod GoneLemmas
mod LoopLemmas
pub mod NameLengths
pub mod RecordStepLemmas
pub mod ReferrerLemmas
mod ModifiedLemmas
pub mod SchemaStepLemmas
pub mod StepsValid
mod UpdateLemmas
pub mod WalkLemmas

pub mod RecordTableLemmas
pub mod RecordLemmas
pub mod SameEvLemmas
pub mod SameSheetLemmas
pub mod PlainNameLemmas
pub mod TypedLemmas
pub mod ResolvedLemmas

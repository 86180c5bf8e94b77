pub mod TypeLemmas
pub mod ColumnLemmas
pub mod InfoLemmas
pub mod DocActionLemmas
pub mod RecordLemmas
pub mod FlatLemmas
pub mod PrintedLemmas

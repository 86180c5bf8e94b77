pub mod RecordTables
pub mod Recs
pub mod ShownColumns

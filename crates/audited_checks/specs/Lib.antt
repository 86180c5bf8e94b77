pub mod AlikeRows
pub mod CheckLaws

pub mod InverseLaws
pub mod LogLaws
pub mod ActionCopies

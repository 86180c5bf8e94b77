mod ColumnRangeLemmas
mod DecimalTexts
mod Decimals
pub mod NoErrorLemmas
mod PlainTexts
mod RowLemmas
mod TextBounds
mod TwiceLemmas

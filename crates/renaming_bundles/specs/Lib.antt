pub mod Expanded
pub mod AskedTexts

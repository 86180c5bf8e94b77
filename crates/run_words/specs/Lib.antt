pub mod Options
pub mod ServeWords
pub mod OptionViews
pub mod Words
pub mod Clap

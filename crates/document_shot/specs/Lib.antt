pub mod Pasts
pub mod PeekAnswers
pub mod Shots
pub mod Trails
pub mod Leading
pub mod Looks

pub mod States
mod Kept
pub mod TurnLemmas
mod CallLemmas
pub mod LineLaws
mod Sent
pub mod OutLemmas
mod Completeness
mod SideLemmas
pub mod AnsweredLemmas
mod TurnAnswers
mod PeekLemmas
mod ShotCalls
pub mod ShotLineLaws
mod Starting
mod ShotCompleteness

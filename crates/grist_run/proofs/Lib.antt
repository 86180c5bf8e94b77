pub mod Sent
pub mod Answered
pub mod Kept
pub mod Said
pub mod Admitting
pub mod HeardLaws
pub mod ServingLaws
pub mod EndLaws
pub mod ToldLaws
pub mod ReplayLaws
pub mod SendLemmas
mod DenialLemmas
mod GivenLaws
mod AskingLaws
mod GeneratedLaws
pub mod Complete

pub mod SeenLaws
pub mod AnswerLemmas
pub mod MakingLemmas

pub mod PeekLemmas
pub mod AnswerLemmas

pub mod Shuffles
pub mod KeyFacts
pub mod SoundFacts
pub mod AnswerFacts
mod LawFacts

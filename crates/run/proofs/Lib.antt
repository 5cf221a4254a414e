pub mod StateLaws
pub mod LeftInFormLaws
pub mod TakingLaws
pub mod LeftLaws
pub mod RunAnswerLaws

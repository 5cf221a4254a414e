pub mod EightLaws
pub mod MarkedLaws

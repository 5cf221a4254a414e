pub mod HandedLaws
pub mod PairJudgeLaws
pub mod HandedAnswerLaws

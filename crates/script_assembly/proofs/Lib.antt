pub mod GrowLaws
pub mod WriterStepLaws
pub mod BlockRankLaws
pub mod ScriptLengthLaws
pub mod ScriptStartLaws
pub mod PartStandsLaws

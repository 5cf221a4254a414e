pub mod ReadLaws
pub mod StageValueLaws
pub mod ChainLaws
pub mod MeaningLaws

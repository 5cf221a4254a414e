pub mod PairFormLaws
pub mod ReadoutLaws

pub mod MajorLaws
pub mod StateOrderLaws
pub mod PlannedLaws
pub mod PositionLaws

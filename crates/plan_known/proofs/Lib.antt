pub mod PlannedBitLaws
pub mod KnownLaws

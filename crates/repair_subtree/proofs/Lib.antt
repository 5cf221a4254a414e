pub mod SubtreeLaws
pub mod JudgeCode
pub mod ListingLaws

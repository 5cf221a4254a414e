pub mod TwoWordLaws
pub mod StageFrameLaws
pub mod PlacingLaws
pub mod JudgeLaws
pub mod ReachLaws
pub mod PlacedRightLaws
pub mod CountListLaws
pub mod UndoneLaws

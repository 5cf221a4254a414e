pub mod FaultLaws
pub mod LaneWordLaws

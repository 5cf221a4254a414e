pub mod SetPairLaws
pub mod LaneTableLaws
pub mod LaneLoadLaws
pub mod PairPlacedLaws
pub mod TryLaws
pub mod LateLaws

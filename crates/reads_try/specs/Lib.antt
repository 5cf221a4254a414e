pub mod LaneTable
pub mod Late
pub mod TableLanes
pub mod Tries

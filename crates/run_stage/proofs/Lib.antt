pub mod StoreLoopLaws
pub mod GatherLaws
pub mod LowLaws
pub mod LevelLaws
pub mod StageEndLaws

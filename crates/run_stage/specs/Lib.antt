pub mod StoreLoop
pub mod Gather
pub mod Level

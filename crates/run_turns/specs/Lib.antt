pub mod Phases
pub mod Capture
pub mod Block

pub mod Planned
pub mod Winners

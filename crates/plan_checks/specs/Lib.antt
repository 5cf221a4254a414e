pub mod Verdicts
pub mod CheckedRoom

pub mod Reads
pub mod Plans
pub mod Scripts
pub mod Marked

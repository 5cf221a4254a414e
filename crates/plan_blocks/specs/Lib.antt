pub mod Blocks
pub mod TableFill
pub mod Sums
pub mod PartTable

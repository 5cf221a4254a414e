pub mod GateList
pub mod ListWords

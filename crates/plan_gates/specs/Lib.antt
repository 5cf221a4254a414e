pub mod Gates
pub mod GateValues

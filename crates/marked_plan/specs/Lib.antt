pub mod GatePlan
pub mod GateScript
pub mod GateRun

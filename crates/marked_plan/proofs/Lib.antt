pub mod GateRecordLaws
pub mod GateAcceptedLaws
pub mod GateScriptLaws
pub mod GateRunLaws

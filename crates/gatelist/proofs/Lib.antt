pub mod GateListLaws
pub mod ListWordLaws

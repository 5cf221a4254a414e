pub mod LaneListLaws
pub mod ScriptWordLaws
pub mod DecodeLaws
pub mod InsideLaws
pub mod DecodableLaws
pub mod ScriptFormLaws

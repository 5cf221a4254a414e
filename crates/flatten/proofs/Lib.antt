pub mod ScriptSizeLaws
pub mod BuildAnswerLaws

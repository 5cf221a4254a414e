pub mod JoinCodeLaws
pub mod JoinPassLaws

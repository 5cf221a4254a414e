pub mod JoinPutLaws
pub mod JoinMaskLaws
pub mod JoinKeptLaws
pub mod JoinLaws
pub mod JoinAnswerLaws

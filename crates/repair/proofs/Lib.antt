pub mod RepairAnswerLaws
pub mod CountFormLaws
pub mod RepairCodeLaws
pub mod RepairWholeLaws

pub mod RefusalOrderLaws
pub mod PassedLaws

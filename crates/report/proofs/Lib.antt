pub mod PartLaws
pub mod BatchLaws
pub mod MonthlyLaws

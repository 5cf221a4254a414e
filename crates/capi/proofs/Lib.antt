pub mod ToldLaws
pub mod PromisedLaws

pub mod PartReads
pub mod ReadsReady
pub mod PartReadAnswers
pub mod Entries

pub mod Refusals
pub mod RefusalGroups

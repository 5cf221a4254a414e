pub mod Report
pub mod Batch
pub mod BatchText
pub mod Monthly

pub mod Script
pub mod Writers

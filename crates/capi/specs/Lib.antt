pub mod Exported
pub mod Numbers
pub mod Promised

pub mod ByteLaws
pub mod WritePassLaws

pub mod LocalAnswer
pub mod Bring

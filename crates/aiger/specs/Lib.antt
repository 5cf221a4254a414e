pub mod Reading
pub mod Writing
pub mod AigerAnswer
pub mod Examples

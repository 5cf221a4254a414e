pub mod Flatten
pub mod FlattenedAnswer

pub mod TableEntries

pub mod TableEntryLaws

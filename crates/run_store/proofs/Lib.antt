pub mod StoredWordLaws

pub mod StoredListLaws

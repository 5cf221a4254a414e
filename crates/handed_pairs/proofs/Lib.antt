pub mod SetSearchLaws

pub mod FieldLaws
pub mod HeaderReadLaws
pub mod GroupLaws
pub mod ReadPassLaws

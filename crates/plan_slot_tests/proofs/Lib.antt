pub mod ItemLaws
pub mod SlotTestLaws
pub mod EmptyRunLaws

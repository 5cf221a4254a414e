pub mod TopLaws
pub mod PutLaws
pub mod SlotLaws
pub mod ListedLaws

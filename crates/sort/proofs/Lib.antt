pub mod CopyLaws
pub mod MergeLaws
pub mod SortEndLaws
pub mod HalfSearchLaws
pub mod SortLaws

pub mod HalfSearch
pub mod Sorted
pub mod SortAnswer

pub mod AskedLaws
pub mod SearchedLaws
pub mod FirstEntryLaws
pub mod ListedBitLaws
pub mod ReadRowLaws
pub mod CheckLaws

pub mod ListStoreLaws
pub mod RowLaws
pub mod PlacedLaws
pub mod StageWriteLaws

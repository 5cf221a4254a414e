pub mod BaseLaws
pub mod LocalPositionLaws

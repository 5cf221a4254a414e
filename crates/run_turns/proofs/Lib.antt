pub mod CaptureLaws
pub mod BlockTurnLaws

pub mod Part
pub mod Turn
pub mod Room
pub mod Run
pub mod Well

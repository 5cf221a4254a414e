pub mod BlockPartsLaws
pub mod TurnsLaws
pub mod StoreTurnLaws
pub mod PartTurnLaws
pub mod AloneLaws
pub mod AnyOrderLaws

pub mod ProbeLaws
pub mod PinMapLaws
pub mod HoldsLaws
pub mod PinMapCodeLaws

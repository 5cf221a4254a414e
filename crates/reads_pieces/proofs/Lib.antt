pub mod PieceKeyLaws
pub mod PieceOrderLaws
pub mod ClassLaws

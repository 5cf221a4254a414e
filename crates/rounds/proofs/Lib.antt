pub mod PieceSizeLaws
pub mod BeforeLaws
pub mod RoundsAnswerLaws

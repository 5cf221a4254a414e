pub mod SectionLineLaws
pub mod AnswerTextLaws
pub mod LaneLaws
pub mod ExampleLaws
pub mod ListedTextLaws
pub mod AnswerToLaws
pub mod TextLengthLaws

pub mod WritingLaws
pub mod TextLaws

pub mod HalfLaws
pub mod SectionEntryLaws
pub mod TestCodeLaws
pub mod BlockFormLaws
pub mod RefuseLaws

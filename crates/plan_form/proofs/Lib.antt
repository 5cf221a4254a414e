pub mod FormTestLaws

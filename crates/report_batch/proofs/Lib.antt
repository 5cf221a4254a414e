pub mod BatchFormLaws

pub mod AsksLaws
pub mod BroughtLaws

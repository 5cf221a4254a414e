pub mod OutcomeLaws
pub mod GainLaws

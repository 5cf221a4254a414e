pub mod SpotLaws
pub mod EndLaws

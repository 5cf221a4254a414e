pub mod StandLaws
pub mod NumberLaws
pub mod DifferenceLaws
pub mod AigerGateLaws
pub mod HeaderLaws
pub mod AigerLaws

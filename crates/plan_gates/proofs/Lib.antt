pub mod GateLaws
pub mod ValueLaws
pub mod ValueCodeLaws

pub mod RecordLaws
pub mod BodyLaws
pub mod EndpointLaws
pub mod PlanFormLaws

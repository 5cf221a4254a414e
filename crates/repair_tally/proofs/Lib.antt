pub mod TallyStepLaws
pub mod HeldLaws
pub mod WayLaws

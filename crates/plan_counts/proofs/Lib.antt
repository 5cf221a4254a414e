pub mod CollectLaws
pub mod DifferentLaws
pub mod ActivationLaws
pub mod PartCountLaws

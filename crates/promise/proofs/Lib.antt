pub mod LocationStageLaws
pub mod AcceptedLaws
pub mod AssembledBlockLaws
pub mod NeverRefusedLaws
pub mod ApartLaws
pub mod PromiseLaws
pub mod FinishLaws

pub mod FilledSliceLaws
pub mod HeadLaws
pub mod PutMidLaws
pub mod SectionsLaws
pub mod MaskLaws
pub mod LaterEntryLaws
pub mod PartLengthLaws
pub mod AcceptedPartLaws

pub mod PartTableLaws
pub mod AllPartsLaws

pub mod SetsLaws
pub mod StageBitLaws
pub mod TurnLaws
pub mod BlockRoomLaws
pub mod PartWellLaws
pub mod BlockInLaws
pub mod KnownFactLaws

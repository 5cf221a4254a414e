pub mod VerdictLaws
pub mod RefusalPlaceLaws
pub mod RefusalGroupLaws
pub mod CheckedRoomLaws

pub mod ListingRecordLaws
pub mod RecordBitLaws
pub mod PrefixLaws

pub mod Records
pub mod RecordsRead

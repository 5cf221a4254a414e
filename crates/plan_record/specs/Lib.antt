pub mod Record
pub mod Endpoint
pub mod Form
pub mod Body

pub mod Decoded
pub mod Decodable
pub mod Fitting

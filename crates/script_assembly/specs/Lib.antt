pub mod Assembly
pub mod WrittenSoFar

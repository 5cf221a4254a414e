pub mod ReadSet
pub mod Asked
pub mod Search
pub mod ReadSection
pub mod Local
pub mod Packing
pub mod SetAnswer
pub mod ReadTurn

pub mod Pairs
pub mod Stage
pub mod Placing
pub mod Clearing
pub mod CountList
pub mod RepairAnswer

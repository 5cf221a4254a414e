pub mod PartOutcome

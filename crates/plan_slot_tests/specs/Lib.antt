pub mod EmptyRuns

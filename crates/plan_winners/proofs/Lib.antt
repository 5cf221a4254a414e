pub mod WinnerLaws

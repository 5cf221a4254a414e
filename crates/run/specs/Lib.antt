pub mod States
pub mod LeftInForm

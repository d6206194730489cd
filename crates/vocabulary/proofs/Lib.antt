pub mod Called
pub mod FitInput
pub mod Placings
pub mod Props
pub mod Stepping
pub mod TermPlaced
pub mod Undone

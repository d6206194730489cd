pub mod First
pub mod Flaws
pub mod Padding

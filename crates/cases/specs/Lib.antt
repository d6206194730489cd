pub mod Case
pub mod Hex

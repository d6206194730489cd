pub mod Firm
pub mod Language
pub mod Places
pub mod Steps
pub mod Symbols
pub mod Trees
pub mod Whole

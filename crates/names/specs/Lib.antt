pub mod Equal
pub mod Name
pub mod Refusal

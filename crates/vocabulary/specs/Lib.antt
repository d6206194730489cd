pub mod Entries
pub mod Held
pub mod Lexicon
pub mod Marks
pub mod Placing

pub mod Book
pub mod Building
pub mod Entered
pub mod Enters
pub mod Entry
pub mod Texts
pub mod Undo
pub mod Vocabulary

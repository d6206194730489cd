pub mod Pieces
pub mod Stages
pub mod FaultLine
pub mod Widths
pub mod Unread

pub mod Progress
pub mod Report
pub mod Proof
pub mod Reading
pub mod Walk
pub mod TallyText

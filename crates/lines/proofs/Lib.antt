pub mod Cuts
pub mod Reported
pub mod Signs

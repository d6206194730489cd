pub mod Any
pub mod Asked
pub mod Defined
pub mod Flags
pub mod Records
pub mod Refers
pub mod Sees
pub mod Visits

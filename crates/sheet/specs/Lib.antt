pub mod Counts
pub mod Content
pub mod Outcome
pub mod Circles
pub mod Store
pub mod Fair
pub mod History
pub mod Holds

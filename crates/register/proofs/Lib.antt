pub mod Faults
pub mod Taking
pub mod Wanted
pub mod Walking

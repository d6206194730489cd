pub mod Anys
pub mod Circles
pub mod Kept
pub mod Numbered
pub mod Visits

pub mod Draft
pub mod Expression
pub mod Parts
pub mod Writer

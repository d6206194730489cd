pub mod Buffers
pub mod Drafted
pub mod Expressed
pub mod Writing

pub mod Idle
pub mod Parts

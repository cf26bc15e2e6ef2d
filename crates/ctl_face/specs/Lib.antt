pub mod Floors
pub mod Kinds
pub mod Pid
pub mod Ranges
pub mod Seen
pub mod Steps
pub mod Stepwise
pub mod Worked

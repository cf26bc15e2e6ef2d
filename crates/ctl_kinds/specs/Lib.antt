pub mod Pid
pub mod Steady
pub mod Stepwise

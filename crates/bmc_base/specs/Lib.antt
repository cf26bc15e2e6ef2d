pub mod Calls
pub mod Counts
pub mod Milli
pub mod Names
pub mod Places
pub mod Steps

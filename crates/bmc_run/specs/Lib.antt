pub mod Ticks
pub mod Gathering
pub mod Runs
pub mod Outside
pub mod Statuses
pub mod Stops
pub mod Progress

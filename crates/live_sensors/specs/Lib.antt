pub mod Sensors
pub mod Items

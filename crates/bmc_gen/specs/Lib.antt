pub mod Documents
pub mod Numbers
pub mod Lines
pub mod Scripts
pub mod Marks
pub mod Laws

pub mod Rows
pub mod Matching
pub mod Laws

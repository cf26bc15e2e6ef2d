pub mod Kept
pub mod Listed
pub mod Rising
pub mod Stands
pub mod Updates
pub mod Laws
pub mod Examples

pub mod Arguments
pub mod Numbers
pub mod Settings
pub mod Examples
pub mod Laws

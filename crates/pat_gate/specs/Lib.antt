pub mod Grammar
pub mod Plain
pub mod Makers
pub mod Forms
pub mod Searches

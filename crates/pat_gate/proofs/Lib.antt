pub mod PlainReading
pub mod PlainMatching
pub mod PlainTests
pub mod Regexes
pub mod Searches

pub mod CommandsLemmas
pub mod NamesLemmas
pub mod ReadingsLemmas

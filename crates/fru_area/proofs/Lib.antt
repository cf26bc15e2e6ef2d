pub mod WalksLemmas
pub mod PositionsLemmas
pub mod TextsLemmas
pub mod UnitsLemmas
pub mod NamesLemmas
pub mod AreasLemmas
pub mod ReadingsLemmas
pub mod RawFieldsLemmas

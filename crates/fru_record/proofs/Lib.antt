pub mod BuildingLemmas
pub mod DatesLemmas
pub mod FieldFaultsLemmas
pub mod LayoutsLemmas
pub mod LookupsLemmas
pub mod RecordsLemmas
pub mod SpellingsLemmas
pub mod TextRulesLemmas

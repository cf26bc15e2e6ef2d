pub mod ValuesLemmas
pub mod AlarmsLemmas
pub mod SensorsLemmas
pub mod LawsLemmas
pub mod FreshLemmas

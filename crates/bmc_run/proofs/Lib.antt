pub mod SoFar
pub mod RunsLemmas
pub mod GatheringLemmas
pub mod Along
pub mod ReasonsLemmas
pub mod TicksLemmas

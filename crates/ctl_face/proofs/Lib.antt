pub mod FloorsLemmas
pub mod LimitsLemmas

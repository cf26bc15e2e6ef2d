pub mod SteadyLemmas
pub mod SmallLemmas
pub mod WideLemmas

pub mod PlacesLemmas
pub mod RowsLemmas
pub mod BoxesLemmas
pub mod BusesLemmas
pub mod ChannelsLemmas
pub mod MatchingLemmas

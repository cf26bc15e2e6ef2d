pub mod JoinedLemmas
pub mod SortedLemmas

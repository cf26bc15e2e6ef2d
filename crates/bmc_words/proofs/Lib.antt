pub mod RowsLemmas
pub mod PassedLemmas
pub mod ReadLemmas
pub mod NamesLemmas
pub mod NumbersLemmas

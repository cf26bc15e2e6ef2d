pub mod MarksLemmas
pub mod LawsLemmas
pub mod SampleLemmas

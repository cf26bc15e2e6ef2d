pub mod BanksLemmas
pub mod FilesLemmas
pub mod SampleLemmas
pub mod CommandsLemmas

pub mod Fronts
pub mod ToldLemmas
pub mod StdFilesLemmas

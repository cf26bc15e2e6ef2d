pub mod ChainsLemmas
pub mod OperationsLemmas
pub mod WordsLemmas
pub mod PiecesLemmas
pub mod RenderingLemmas

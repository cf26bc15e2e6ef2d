pub mod KeptLemmas
pub mod RisingLemmas
pub mod ListedLemmas
pub mod LawsLemmas

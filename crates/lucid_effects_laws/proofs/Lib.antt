pub mod LawsLemmas

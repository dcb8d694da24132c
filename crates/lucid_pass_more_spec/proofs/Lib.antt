pub mod CastsLemmas
pub mod LiftLemmas
pub mod MergeLemmas
pub mod SourcesLemmas

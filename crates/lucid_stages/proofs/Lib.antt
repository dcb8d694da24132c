pub mod ExamplesLemmas
pub mod MarksLemmas
pub mod NodeOrderLemmas
pub mod NodeTablesLaws
pub mod NodeTablesLemmas
pub mod NodeWorksLemmas
pub mod PlacingLemmas
pub mod StageLemmas

pub mod Answered
pub mod Apart
pub mod ItemsLemmas
pub mod LastNamed
pub mod LimitsLemmas
pub mod PlainScenarios
pub mod ReadingLemmas
pub mod ScenarioLemmas

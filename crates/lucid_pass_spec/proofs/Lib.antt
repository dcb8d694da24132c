pub mod DirectRuns
pub mod Directs
pub mod Gone
pub mod Left
pub mod Looking
pub mod PassExamples
pub mod Replaces
pub mod Replacing

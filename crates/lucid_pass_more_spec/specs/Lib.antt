pub mod Casts
pub mod Examples
pub mod Lift
pub mod Merge
pub mod Sources

pub mod Flags
pub mod Joining
pub mod Agrees
pub mod LawOfCounts
pub mod Summing
pub mod BlocksLemmas
pub mod HeldLemmas

pub mod Bodies
pub mod Branches
pub mod Counts
pub mod Flags
pub mod Found
pub mod Held
pub mod Rounds
pub mod Sums

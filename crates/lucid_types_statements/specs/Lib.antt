pub mod Arms
pub mod Assembly
pub mod Bodies
pub mod Kept
pub mod MatchArms

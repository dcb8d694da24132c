pub mod Assembled
pub mod Chains
pub mod Holes
pub mod Kept
pub mod MatchArms
pub mod Matches
pub mod Onto

pub mod CircleWalk
mod Covering
pub mod CycleLemmas
pub mod Joining
pub mod LawProofs
pub mod LookLemmas
pub mod MeansLemmas
pub mod MemberLemmas
pub mod NamesLemmas
pub mod NumberingLemmas
pub mod SameLemmas
pub mod SettleLemmas
pub mod StepLemmas

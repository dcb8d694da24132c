pub mod Tally
pub mod Cases
pub mod NewPart
pub mod Laws

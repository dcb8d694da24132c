pub mod CausesLemmas
mod DriveLemmas
mod NetworkLemmas

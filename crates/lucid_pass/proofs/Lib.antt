pub mod DeadLemmas
mod LawsLemmas
mod RunLemmas

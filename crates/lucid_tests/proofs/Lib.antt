pub mod ExampleProofs
mod FlightsLemmas
pub mod StepProofs
mod WholeLemmas

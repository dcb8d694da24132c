pub mod FormExamples
pub mod Refused
pub mod Setup
pub mod StepExamples

pub mod Readings
pub mod Refusal

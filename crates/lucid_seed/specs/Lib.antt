pub mod Seed
pub mod Started

pub mod Answers
pub mod SoFar

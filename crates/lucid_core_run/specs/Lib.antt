pub mod Running
pub mod Interpret

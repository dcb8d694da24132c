pub mod Adding
pub mod Noted

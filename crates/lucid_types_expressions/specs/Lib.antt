pub mod Forms
pub mod Gives

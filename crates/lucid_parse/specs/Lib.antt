pub mod Nesting
pub mod Parts
pub mod Program

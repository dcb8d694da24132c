pub mod Entering
pub mod Handling
pub mod Two

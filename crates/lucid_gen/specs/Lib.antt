pub mod Choices
pub mod Draws
pub mod Limits
pub mod Program
pub mod Scene

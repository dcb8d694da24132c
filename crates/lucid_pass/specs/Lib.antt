pub mod Marks
pub mod Through

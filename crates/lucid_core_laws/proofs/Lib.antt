pub mod Assigning
pub mod Built
pub mod Expressions
pub mod Owning
pub mod Parts
pub mod SmallPrograms
pub mod Statements
pub mod Times

pub mod NewPart
pub mod Reading

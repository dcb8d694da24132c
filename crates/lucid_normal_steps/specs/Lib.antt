pub mod Added
pub mod Notes

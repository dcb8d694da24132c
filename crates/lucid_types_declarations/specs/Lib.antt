pub mod Events
pub mod Functions
pub mod Groups
pub mod Known
pub mod Memops
pub mod Parameters

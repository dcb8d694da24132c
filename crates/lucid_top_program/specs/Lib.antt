pub mod Causes
pub mod Program
pub mod Safe
pub mod Settings
pub mod Source

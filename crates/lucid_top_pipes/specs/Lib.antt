pub mod Causes
pub mod Watching

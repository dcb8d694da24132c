pub mod Calls
pub mod Log
pub mod Snap
pub mod Writes

mod Copying
pub mod Following
mod Oldest
pub mod Passing
mod Settling
mod Snapping
mod Trailing

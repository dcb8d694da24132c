pub mod Kept
pub mod Order
pub mod Turns
pub mod Waiting

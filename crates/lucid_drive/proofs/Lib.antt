pub mod Changing
pub mod Driving
pub mod Flushing
pub mod Joining
pub mod Moving
pub mod Putting
pub mod Running
pub mod Seeing
pub mod Standing
pub mod States
pub mod Steps
mod Worked

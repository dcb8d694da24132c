mod ExampleProofs
mod Free
pub mod InOrder
pub mod Numbers
pub mod Older
pub mod Passing
pub mod Telling
mod Windows

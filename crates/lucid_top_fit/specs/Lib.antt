pub mod Causes
pub mod Fit
pub mod Passes
pub mod Placing
pub mod Room

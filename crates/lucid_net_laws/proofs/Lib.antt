pub mod Behind
pub mod Bounds
mod Doing
pub mod Draining
pub mod Fitting
pub mod Flying
mod Inputs
pub mod Later
pub mod Leavers
pub mod Put
pub mod Texts
pub mod Whole

pub mod Finding
pub mod Fits
pub mod Meaning
pub mod Parts
pub mod Promises

pub mod Counts
pub mod Examples
pub mod Flat
pub mod Laws

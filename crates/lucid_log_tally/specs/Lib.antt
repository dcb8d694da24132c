pub mod Bench
pub mod Endings
pub mod Line
pub mod Tally

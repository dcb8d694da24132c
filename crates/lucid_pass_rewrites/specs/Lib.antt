pub mod Changed
pub mod Comparisons
pub mod Covering
pub mod Readers
pub mod Settle
pub mod Trail
pub mod Writers

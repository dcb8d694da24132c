pub mod Bodies
pub mod Refusals
pub mod Sites
pub mod Widths

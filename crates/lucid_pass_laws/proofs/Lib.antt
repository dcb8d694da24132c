pub mod Composed
mod Counted

mod Expanded
mod Seams
mod Standing
mod Gaps
mod Forms
mod Whole
mod Placed
mod Read
mod Closed
mod Scans
mod Turns
mod Bytes
pub mod Unique
mod Lengths
pub mod Exists
mod Repeats
mod Rows
mod InText
mod Dealing
mod Written
mod Least
mod Converse
pub mod Plain

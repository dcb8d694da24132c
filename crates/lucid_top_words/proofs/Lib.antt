pub mod Cycles
pub mod Numbers
pub mod Parts
pub mod Reading
pub mod Readings
pub mod Seen
pub mod FilesLemmas

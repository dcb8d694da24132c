pub mod FilesInMemory
pub mod HistoryLemmas
pub mod Faults
pub mod FileCalls
pub mod Leaves
mod PastLemmas

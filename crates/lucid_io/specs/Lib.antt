pub mod Contents
pub mod Counts
pub mod History
pub mod MemFiles
pub mod MemFilesFields
pub mod MemSink
pub mod Past
pub mod Puts

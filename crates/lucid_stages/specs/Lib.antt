pub mod Counts
pub mod Examples
pub mod Marks
pub mod NodeTables
pub mod NodeWorks
pub mod Placing
pub mod Stage

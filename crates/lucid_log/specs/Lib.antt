pub mod Block
pub mod Cell
pub mod Cells
pub mod Ending
pub mod Filled
pub mod Pieces

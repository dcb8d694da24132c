pub mod Examples
pub mod Free
pub mod Laws
pub mod Log
pub mod Older
pub mod Pieces
pub mod Ways
pub mod Windows

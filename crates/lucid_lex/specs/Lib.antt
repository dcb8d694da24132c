pub mod Byte
pub mod Front
pub mod Piece
pub mod Reading
pub mod Sign
pub mod Word

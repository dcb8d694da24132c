pub mod BlockLemmas
pub mod Holes
pub mod Lines
pub mod Numbers
pub mod Outs
pub mod PiecesLemmas

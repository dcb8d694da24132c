pub mod BitsLemmas
mod CellPlaces
pub mod CellsFit
pub mod Folds
pub mod Laws
pub mod NumbersLemmas
pub mod Small
pub mod Widths

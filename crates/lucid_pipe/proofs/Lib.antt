mod Alike
mod AsRows
pub mod Beside
pub mod ByArray
mod ByRegister
mod Carried
mod Fields
mod Handing
pub mod Idle
mod Loading
pub mod Moves
mod OutLists
mod Parted
pub mod Passes
mod Places
pub mod Settles
pub mod Sizes
mod StageLemmas
mod Together
mod Zeros

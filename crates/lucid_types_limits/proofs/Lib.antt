pub mod Tallies
pub mod Chain
pub mod Forms
pub mod FewCases
pub mod Passing
pub mod Stays
pub mod New

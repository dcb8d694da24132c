pub mod Lift
pub mod Users

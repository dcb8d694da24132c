pub mod Composing
pub mod FirstFit
pub mod Joined
pub mod Places
pub mod RoomLemmas
pub mod Runs
mod Told

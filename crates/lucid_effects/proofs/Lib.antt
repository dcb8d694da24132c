pub mod Forms
pub mod Judged
pub mod Rising
pub mod Spent
pub mod WalkLemmas
pub mod Turns

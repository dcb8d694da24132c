pub mod Answers
pub mod First
pub mod Goes
pub mod Spent
pub mod Walk

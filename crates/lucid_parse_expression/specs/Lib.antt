pub mod Nodes
pub mod Reads
pub mod Tokens
pub mod Within

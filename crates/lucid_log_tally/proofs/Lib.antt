pub mod Endings
mod Made

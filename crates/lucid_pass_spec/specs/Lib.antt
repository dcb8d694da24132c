pub mod Dead
pub mod Direct
pub mod Examples
pub mod Laws
pub mod Looks
pub mod Replace

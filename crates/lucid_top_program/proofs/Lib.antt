pub mod JsonFiles
pub mod Ordering
pub mod SafeTexts
pub mod Sizes
pub mod Tokens
pub mod Trees

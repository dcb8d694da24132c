pub mod Law
pub mod Lexemes
pub mod Operators
pub mod ReadDeclaration
pub mod ReadExpression
pub mod Reader
pub mod ReadStatement
pub mod Spelling

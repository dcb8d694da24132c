pub mod Induction
pub mod StatementInduction

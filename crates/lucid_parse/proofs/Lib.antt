pub mod Programs
mod StatementLemmas

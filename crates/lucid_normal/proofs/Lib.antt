mod BodiesLemmas
mod BranchesLemmas
mod EndsLemmas
mod ExpressionsLemmas
pub mod Fields
mod ListsLemmas
mod StatementsLemmas
mod TasksLemmas

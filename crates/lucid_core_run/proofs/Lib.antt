mod CellsLemmas
mod TasksLemmas
mod ListLemmas

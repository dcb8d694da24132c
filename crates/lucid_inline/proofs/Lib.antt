pub mod Accepted
mod BodiesLemmas
mod CallsLemmas
mod ExpressionsLemmas
mod GroupLemmas
mod StackLemmas
mod StatementsLemmas
mod WidthsLemmas

mod FitsAccepted
mod FitsKeep
mod Forward
pub mod LawsLemmas
mod OneFit

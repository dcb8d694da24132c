mod LiftLemmas
mod UsersLemmas

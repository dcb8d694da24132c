use Rattle.lucid_top_laws.proofs.AnswersThereLemmas.{answers_there}
use Rattle.lucid_top_laws.proofs.ThereCyclesLemmas.{cycles_fit}
use Rattle.lucid_top_laws.proofs.laws.answers_are_there.Goals as goal

pub returns : goal.returns
returns c =
    answers_there c.declarations_are_read_as_spelled.ensures c.programs_are_decided.ensures c.bodies_are_decided.ensures c.paths_decide.ensures.cycles
    (cycles_fit c.typed_programs_are_valid.ensures) c.layouts_are_there.ensures

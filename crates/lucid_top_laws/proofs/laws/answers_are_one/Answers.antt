use Rattle.lucid_types_laws.specs.Declaration.{declaration}
use Rattle.lucid_top_laws.proofs.LawsLemmas.{answers_agree}
use Rattle.lucid_top_laws.proofs.laws.answers_are_one.Goals as goal

pub returns : goal.returns
returns c =
    answers_agree c.declarations_are_read_as_spelled.ensures (c.the_first_refusal_is_found.ensures.determined declaration c.declarations_are_computed.ensures)
    c.layouts_are_one.ensures c.audits_are_one.ensures

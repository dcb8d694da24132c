use Rattle.std.proofs.Common.{Ok, subst}
use Rattle.lucid_core.specs.Parts.{CoreParts}
use Rattle.lucid_top.specs.Room.{LacksRoom, limits_in, program_in}
use Rattle.lucid_types_laws.specs.Declaration.{declaration}
use Rattle.lucid_top_laws.proofs.LawsLemmas.{program_agree}
use Rattle.lucid_top_laws.proofs.laws.nodes_lack_room.Goals as goal

pub returns : goal.returns
returns c cmd g keep core is i refused =
    let lacks = c.commands_lack_room.ensures cmd g keep i refused in
    let determined = c.the_first_refusal_is_found.ensures.determined declaration c.declarations_are_computed.ensures in
    let same = program_agree c.declarations_are_read_as_spelled.ensures determined (program_in cmd g) (Ok lacks.0) (Ok core) lacks.1 is in
    subst (λ (d : CoreParts). LacksRoom d g.passes i (limits_in cmd g)) same lacks.2

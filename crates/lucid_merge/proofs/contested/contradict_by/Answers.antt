use Rattle.std.proofs.Common.{◌||◌, sym, ap, ◌∙◌}
use Rattle.std.specs.List.{list_any}
use Rattle.std.proofs.lemmas.Bool.{or_left}
use Rattle.lucid_code.specs.Guards.{contradict}
use Rattle.lucid_merge.specs.Contested.{opposes_lone}
use Rattle.lucid_merge.proofs.Contests.{contradict_lists}
use Rattle.lucid_merge.proofs.contested.contradict_by.Goals as goal

pub returns-then-contradict : goal.returns-then-contradict
returns-then-contradict c =
    let p = c.args.p.now in
    let q = c.args.q.now in
    let lone = c.args.lone.now in
    let met = list_any (opposes_lone lone q) c.args.of_p.now || list_any (opposes_lone lone p) c.args.of_q.now in
    c.if-contradict.true
    ∙ sym (contradict_lists lone p q c.args.of_p.now c.args.of_q.now c.requires.of_p c.requires.of_q
    ∙ or_left (contradict c.args.of_p.now c.args.of_q.now) met (sym c.contradict.ensures ∙ c.if-contradict.true))

pub returns-else-contradict : goal.returns-else-contradict
returns-else-contradict c =
    let p = c.args.p.now in
    let q = c.args.q.now in
    let lone = c.args.lone.now in
    let met = list_any (opposes_lone lone q) c.args.of_p.now || list_any (opposes_lone lone p) c.args.of_q.now in
    c.either_opposes_lone.ensures
    ∙ sym (contradict_lists lone p q c.args.of_p.now c.args.of_q.now c.requires.of_p c.requires.of_q
    ∙ ap (λ b. b || met) (sym c.contradict.ensures ∙ c.if-contradict.false))

use Rattle.std.proofs.Common.{◌≤◌, ◌∙◌, length, refl, rules, sym, subst}
use Rattle.std.proofs.lemmas.List.{drop_all, drop_more}
use Rattle.lucid_constraints.specs.Cover.{StartsHeld}
use Rattle.lucid_constraints.proofs.cover.start_held.Goals as goal

pub loop-atom-preserved : goal.loop-atom-preserved
loop-atom-preserved c = λ rest. c.loop-atom.invariant
    (subst (StartsHeld c.args.places.now c.args.theirs.now c.args.ours.now) (sym (drop_more c.args.start.now c.loop-atom.atom-index _ c.loop-atom-test.true))
    ((c.in-Some.row, sym c.atom_number.ensures.number ∙ c.in-Some.is, c.if-not-row_held.ensures refl), rest))

pub returns : goal.returns
returns c = λ _.
    let end : length c.args.start.now ≤ c.loop-atom.atom-index = search rules in
    c.loop-atom.invariant (subst (StartsHeld c.args.places.now c.args.theirs.now c.args.ours.now) (sym (drop_all c.loop-atom.atom-index c.args.start.now end)) tt)

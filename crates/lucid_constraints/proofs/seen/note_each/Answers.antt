use Rattle.std.proofs.Common.{rules, ◌≡◌, ◌+◌, suc, sym, subst, ap, ◌∙◌, take, length, arith}
use Rattle.std.proofs.Math.Seq.{take-length, take-suc}
use Rattle.lucid_constraints.specs.Seen.{Seen}
use Rattle.lucid_constraints.proofs.seen.note_each.Goals as goal

pub loop-atom-preserved : goal.loop-atom-preserved
loop-atom-preserved c =
    let next : suc c.loop-atom.atom-index ≡ c.loop-atom.atom-index + 1 = omega arith in
    subst (λ k. Seen c.note.new.seen (take k c.args.ends.now)) next
    (subst (λ xs. Seen c.note.new.seen xs) (sym (take-suc c.args.ends.now c.loop-atom.atom-index _ c.loop-atom-test.true)) (c.note.ensures (take c.loop-atom.atom-index c.args.ends.now) c.loop-atom.invariant))

pub returns : goal.returns
returns c =
    let end : c.loop-atom.atom-index ≡ length c.args.ends.now = search rules in
    subst (λ xs. Seen c.loop-atom.seen xs) (ap (λ k. take k c.args.ends.now) end ∙ take-length c.args.ends.now) c.loop-atom.invariant

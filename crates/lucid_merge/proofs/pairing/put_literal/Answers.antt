use Rattle.std.proofs.Common.{List, ℕ, sym, ap, subst, ◌∙◌}
use Rattle.lucid_code.specs.declared.op.Literal.{Literal}
use Rattle.lucid_merge.specs.Marks.{is_marked, AreSeen}
use Rattle.lucid_merge.proofs.PairingLemmas.{one_seen}
use Rattle.lucid_merge.proofs.pairing.put_literal.Goals as goal

pub has_seen-requires : goal.has_seen-requires
has_seen-requires c =
    subst (λ (s : List ℕ). AreSeen s c.as_slice-2.result.now) (sym c.as_slice.ensures.value)
    (subst (λ (p : List Literal). AreSeen c.args.seen.now.items p) (sym c.as_slice-2.ensures) c.requires)

pub returns-clause-seen : goal.returns-clause-seen
returns-clause-seen c =
    one_seen c.args.seen.now.items c.set_mark.new.marks.items c.args.pattern.now c.push.new.self c.args.literal c.set_mark.ensures.others
    (ap (is_marked c.set_mark.new.marks.items) (sym c.slot-place.ensures) ∙ c.set_mark.ensures.place)
    c.in_ok-push.ensures.ok c.requires

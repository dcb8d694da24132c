use Rattle.std.proofs.Common.{sym, ap, ◌∙◌}
use Rattle.lucid_merge.specs.Marks.{is_marked}
use Rattle.lucid_merge.proofs.PairingLemmas.{unseen}
use Rattle.lucid_merge.proofs.pairing.has_seen.Goals as goal

pub returns-then-not-is_marked : goal.returns-then-not-is_marked
returns-then-not-is_marked c =
    sym (unseen c.args.seen.now c.args.pattern.now c.args.literal c.requires
    (ap (is_marked c.args.seen.now) (sym c.slot-place.ensures) ∙ sym c.is_marked.ensures ∙ c.if-not-is_marked.true))

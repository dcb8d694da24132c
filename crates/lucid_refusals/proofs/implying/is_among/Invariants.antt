use Rattle.std.proofs.Common.{◌≡◌, drop}
use Rattle.std.specs.List.{list_all}
use Rattle.lucid_refusals.specs.Refusal.{is_one}
use Rattle.lucid_refusals.proofs.implying.is_among.Given as goal

-- the rest decides the whole
abbrev pub invariant-loop-at : goal.invariant-loop-at
invariant-loop-at l = list_all (is_one l.literals l.more) (drop l.at l.pattern) ≡ list_all (is_one l.literals l.more) l.pattern

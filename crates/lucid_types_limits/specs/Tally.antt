-- The tally of a part of a body: its outs, which stop at the last u64, and whether its arguments are few.
use Rattle.std.specs.Prelude.{ℕ, ◌-◌, ◌^◌, List, Bool, map, min}
use Rattle.lucid_core.specs.Numbers.{all_hold}
use Rattle.lucid_core.specs.OutCount.{Count, total}
use Rattle.lucid_types_limits.specs.declared.tally.Tally.{Tally}

unfoldable pub tally : ℕ → Bool → Tally
tally outs few = record { outs = min outs (2 ^ 64 - 1); few = few }

-- The tally of these, one after the other, given the outs of the functions before.
abbrev pub in_turn : {A : Type 0} → (A → Count) → (A → Bool) → List ℕ → List A → Tally
in_turn outs few funs xs = tally (total (map outs xs) funs) (all_hold (map few xs))

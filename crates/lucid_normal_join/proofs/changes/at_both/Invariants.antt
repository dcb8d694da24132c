use Rattle.std.proofs.Common.{◌≡◌, ◌++◌, ℕ, Option, None, drop, map, slice_index_or}
use Rattle.lucid_normal_join.specs.declared.changes.Change.{Change}
use Rattle.lucid_normal_spec.specs.declared.env.Typed.{Typed}
use Rattle.lucid_normal_join.proofs.changes.at_both.Given as goal

-- the visited part and the rest make the whole
abbrev pub invariant-loop-local : goal.invariant-loop-local
invariant-loop-local l =
    let made : ℕ × Option Typed → Change = λ f. record { local = f.0; first = f.1; second = slice_index_or l.held f.0 None } in
    l.both.items ++ map made (drop l.local-index l.firsts) ≡ map made l.firsts

-- The result of `Lift`: an operation no longer waits for what all readers of its field wait for.
use Rattle.std.specs.Prelude.{ℕ, List, [], ◌++◌, Bool, not, ◌&&◌, ◌||◌, if◌then◌else◌, map, nat_eq}
use Rattle.std.specs.List.{filter, list_all, list_any}
use Rattle.std.specs.Option.{option_map_or, option_to_list}
use Rattle.lucid_code.specs.declared.op.Literal.{Literal}
use Rattle.lucid_code.specs.declared.op.Op.{Op}
use Rattle.lucid_code.specs.Guards.{contradict}
use Rattle.lucid_code.specs.Parts.{CodeParts}
use Rattle.lucid_code.specs.Uses.{only_writes, read_by, written_by}
use Rattle.lucid_pass_spec.specs.Looks.{same_literal}

-- The fields that an operation reads, and the one that it writes.
abbrev pub used_by : Op → List ℕ
used_by o = read_by o ++ option_to_list (written_by o.act)

abbrev pub uses : Op → ℕ → Bool
uses o k = list_any (λ j. nat_eq j k) (used_by o)

-- The literals of a guard that may hold, and none of one that contradicts itself.
abbrev pub usable : List Literal → List Literal
usable guard = if contradict guard guard then [] else guard

abbrev pub requires_it : Literal → Op → Bool
requires_it l o = list_any (same_literal l) (usable o.guard)

-- The guard of each operation that writes or reads field k has this literal, and may hold.
abbrev pub is_shared : List Op → ℕ → Literal → Bool
is_shared ops k l = list_all (λ o. not (uses o k) || requires_it l o) ops

-- A literal of a writer of field k that is dropped: all that use the field have it. The event's literal (field 0) stays.
abbrev pub drops : List Op → ℕ → Literal → Bool
drops ops k l = not (nat_eq l.field 0) && is_shared ops k l

abbrev pub lifted_guard : List Op → ℕ → List Literal → List Literal
lifted_guard ops k guard = filter (λ l. not (drops ops k l)) guard

-- Only an operation that does nothing but write a field acts under fewer literals. The guards are those of the original code.
abbrev pub lift_op : List Op → Op → Op
lift_op ops o = option_map_or (λ k. record o { guard = lifted_guard ops k o.guard }) (only_writes o.act) o

abbrev pub lift_ops : List Op → List Op
lift_ops ops = map (lift_op ops) ops

abbrev pub lift : CodeParts → CodeParts
lift code = record code { ops = lift_ops code.ops }

-- The answers of calls on bodies.
use Rattle.std.specs.Prelude.{◌≡◌, ℕ, Bool, ◌&&◌, List, nat_eq, Option, None, Some, option_map, Result, Ok, Err}
use Rattle.lucid_core.specs.Typing.{◌>>=◌}
use Rattle.lucid_types_spec.specs.declared.body.Body.{Body}
use Rattle.lucid_types_spec.specs.Block.{Numbered}
use Rattle.lucid_types_spec.specs.Names.{Names}
use Rattle.lucid_types_laws.specs.declared.part.Part.{Part}
use Rattle.lucid_types_laws.specs.Statement.{Taken, onto, put}
use Rattle.lucid_types_expressions.specs.declared.fault.Fault.{Fault}
use Rattle.lucid_types_expressions.specs.Gives.{Fails}

-- A statement so taken, with these names and this numbered behind it.
abbrev pub Takes : Result Part Fault → Names → Numbered → Option Taken → Type 0
Takes (Ok p) s m o = o ≡ Some (record { part = p; names = s; numbered = m })
Takes (Err f) s m o = Fails f o

-- A part of its block, with any names and any numbered unchanged.
abbrev pub Adds : Result Part Fault → Part → Type 0
Adds r p = (s : Names) (m : Numbered) → Takes r s m (Some (record { part = p; names = s; numbered = m }))

-- A part alone, as the second branch of an `if`.
abbrev pub alone_of : Option Part → Option (Option Body)
alone_of o = o >>= (λ p. option_map Some (put p None))

-- The result, and the locals and texts numbered after it.
abbrev pub Leaves : {A : Type 0} → Result A Fault → Numbered → Option (A × Numbered) → Type 0
Leaves (Ok x) m o = o ≡ Some (x, m)
Leaves (Err f) m o = Fails f o

-- The parts before a rest, and the locals and texts numbered after them.
abbrev pub before_rest : Option Body → Option (List Part × Numbered) → Option (Option Body × Numbered)
before_rest rest o = o >>= (λ q. onto q.0 rest >>= (λ b. Some (b, q.1)))

-- Parts with the same effect before each rest, and the locals and texts numbered after them.
abbrev pub LeavesParts : Result (List Part) Fault → Numbered → Option (List Part × Numbered) → Type 0
LeavesParts (Ok ps) m o = (rest : Option Body) → before_rest rest o ≡ before_rest rest (Some (ps, m))
LeavesParts (Err f) m o = Fails f (before_rest None o)

-- `%d`
abbrev pub is_hole : ℕ → ℕ → Bool
is_hole a b = nat_eq a 37 && nat_eq b 100

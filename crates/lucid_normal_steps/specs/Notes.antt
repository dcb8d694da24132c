-- The operands of the locals before something was written.
use Rattle.std.specs.Prelude.{ℕ, List, [], ◌∷◌, Option, None, Some, slice_set}
use Rattle.lucid_normal_steps.specs.declared.notes.Note.{Note}
use Rattle.lucid_normal_steps.specs.declared.notes.Note.TheVariants.{One, All}
use Rattle.lucid_normal_spec.specs.declared.env.Typed.{Typed}

-- The last note is undone first. All locals are restored if none has an operand: after a return none has.
abbrev pub put_one : Note → List (Option Typed) → List (Option Typed)
put_one (One i was) held = slice_set held i was
put_one (All all) [] = all
put_one (All all) (h ∷ hs) = h ∷ hs

abbrev pub before : List Note → List (Option Typed) → List (Option Typed)
before [] held = held
before (n ∷ ns) held = put_one n (before ns held)

-- The locals of which something is noted.
abbrev pub noted : List Note → List ℕ
noted [] = []
noted (One i was ∷ ns) = i ∷ noted ns
noted (All all ∷ ns) = noted ns

-- The end of a branch, from its start: no operands, or those of the notes.
abbrev pub end_of : Option (List Note) → List (Option Typed) → List (Option Typed)
end_of None held = []
end_of (Some notes) held = before notes held

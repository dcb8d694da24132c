-- The locals and texts that a body numbers, and the number of a text.
use Rattle.std.specs.Prelude.{◌≡◌, ℕ, List, [], Result, Ok, Err}
use Rattle.lucid_base.specs.declared.memory.Memory.{Memory}
use Rattle.lucid_types_spec.specs.Block.{Numbered, form_number, one_form}
use Rattle.lucid_types_scope.specs.declared.numbering.Numbering.{Numbering}

-- As the rules have it.
abbrev pub numbered_of : Numbering → Numbered
numbered_of n = record { locals = n.locals; forms = n.forms }

-- A text has this number, and these are the texts with it.
abbrev pub IsNumbered : Result ℕ Memory → List ℕ → List (List ℕ) → List (List ℕ) → Type 0
IsNumbered (Ok k) text old new = (k ≡ form_number text old) × (new ≡ (one_form text (record { locals = []; forms = old })).forms)
IsNumbered (Err e) text old new = Unit {0}

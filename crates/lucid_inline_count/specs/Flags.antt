-- Flags that were set, and their old values.
use Rattle.std.specs.Prelude.{List, [], ◌∷◌, Bool, slice_set}
use Rattle.lucid_inline_count.specs.declared.held.Note.{Note}

-- The flags before these were set, the last put back first.
abbrev pub put_back : List Note → List Bool → List Bool
put_back [] held = held
put_back (n ∷ ns) held = slice_set (put_back ns held) n.local n.was

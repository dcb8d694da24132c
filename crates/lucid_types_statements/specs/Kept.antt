-- Names that a block adds to.
use Rattle.std.specs.Prelude.{◌≡◌, ◌-◌, drop, length}
use Rattle.lucid_types_spec.specs.Names.{Names}

-- The old names are those behind all that is new.
abbrev pub Keeps : Names → Names → Type 0
Keeps old new = drop (length new - length old) new ≡ old

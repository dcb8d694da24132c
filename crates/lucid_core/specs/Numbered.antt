-- The numbers of declarations, by which the first of several is known.
use Rattle.std.specs.Prelude.{ℕ, ◌+◌, List, [], ◌∷◌, Bool, true, ◌&&◌, not, map, nat_eq, nat_le}
use Rattle.std.specs.List.{list_all}
use Rattle.lucid_core.specs.Parts.{CoreParts}

-- Each is above all before it, and the first at least this one.
abbrev pub rising : ℕ → List ℕ → Bool
rising least [] = true
rising least (d ∷ ds) = nat_le least d && rising (d + 1) ds

-- They are at least 1, rise along the functions and along the handlers, and no function has the number of a handler.
abbrev pub declarations_are_numbered : CoreParts → Bool
declarations_are_numbered parts =
    rising 1 (map (λ f. f.decl) parts.funs)
    && rising 1 (map (λ h. h.decl) parts.handlers)
    && list_all (λ h. list_all (λ f. not (nat_eq f.decl h.decl)) parts.funs) parts.handlers

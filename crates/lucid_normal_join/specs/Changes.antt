-- The locals that the branches of an if write, joined one after another: the others are held as before.
use Rattle.std.specs.Prelude.{ℕ, List, [], ◌∷◌, ◌++◌, ◌≡◌, Option, None, Contains, map, slice_index_or, slice_set, true}
use Rattle.std.specs.List.Sorted.{IsStrictlyIncreasing}
use Rattle.lucid_normal_join.specs.declared.changes.Change.{Change}
use Rattle.lucid_normal_join.specs.Branches.{met}
use Rattle.lucid_normal_steps.specs.Notes.{before, noted}
use Rattle.lucid_normal_steps.specs.declared.notes.Note.{Note}
use Rattle.lucid_normal_spec.specs.declared.env.Env.{Env}
use Rattle.lucid_normal_spec.specs.declared.env.Typed.{Typed}
use Rattle.lucid_normal_spec.specs.Translate.{Joined}

-- One local, from the operands of all locals at the ends of the branches.
abbrev pub change_of : List (Option Typed) → List (Option Typed) → ℕ → Change
change_of xs ys i = record { local = i; first = slice_index_or xs i None; second = slice_index_or ys i None }

-- One change where it is met.
abbrev pub change_met : ℕ → ℕ → Change → List (Option Typed) → List ℕ → Joined
change_met level c g held widths = met level c widths (slice_index_or held g.local None) g.first g.second

abbrev pub change_held : ℕ → ℕ → Change → List (Option Typed) → List ℕ → List (Option Typed)
change_held level c g held widths = slice_set held g.local (slice_index_or (change_met level c g held widths).held 0 None)

-- One after another, from the operands of the locals before the if.
abbrev pub changes_joined : ℕ → ℕ → List Change → List (Option Typed) → List ℕ → Joined
changes_joined level c [] held widths = record { held = held; ops = []; widths = widths; fine = true }
changes_joined level c (g ∷ gs) held widths =
    let m = change_met level c g held widths in
    let r = changes_joined level c gs (change_held level c g held widths) m.widths in
    record r { ops = m.ops ++ r.ops }

abbrev pub with_locals : Env → Joined → Env
with_locals env j = record env { held = j.held; widths = j.widths }

-- Each local of which either list notes something, once, in the order of their numbers.
pub record AreChanges (held : List (Option Typed)) (first second : List Note) (changes : List Change) : Type 0 where
  pub locals : List ℕ
  pub each : changes ≡ map (change_of (before first held) (before second held)) locals
  pub rise : IsStrictlyIncreasing locals
  pub whole : (i : ℕ) → Contains (noted first ++ noted second) i → Contains locals i

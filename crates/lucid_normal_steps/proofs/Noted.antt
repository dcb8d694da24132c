-- The notes lead back.
use Rattle.std.proofs.Common.{◌≡◌, ℕ, List, [], ◌∷◌, ◌++◌, Option, None, slice_index_or, slice_set, refl, ap, ◌∙◌}
use Rattle.std.proofs.lemmas.List.{set-get_or, set-set}
use Rattle.lucid_normal_steps.specs.declared.notes.Note.{Note}
use Rattle.lucid_normal_steps.specs.declared.notes.Note.TheVariants.{One}
use Rattle.lucid_normal_steps.specs.Notes.{before, put_one}
use Rattle.lucid_normal_spec.specs.declared.env.Typed.{Typed}

pub before_last : (ns : List Note) (n : Note) (held : List (Option Typed)) → before (ns ++ n ∷ []) held ≡ before ns (put_one n held)
before_last [] n held = refl
before_last (m ∷ ns) n held = ap (put_one m) (before_last ns n held)

-- The old operand of a local is noted before it gets another.
pub before_held : (ns : List Note) (held : List (Option Typed)) (i : ℕ) (x : Option Typed) →
    before (ns ++ One i (slice_index_or held i None) ∷ []) (slice_set held i x) ≡ before ns held
before_held ns held i x =
    before_last ns (One i (slice_index_or held i None)) (slice_set held i x)
    ∙ ap (before ns) (set-set held i x (slice_index_or held i None) ∙ set-get_or held i None)

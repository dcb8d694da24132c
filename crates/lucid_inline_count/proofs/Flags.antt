-- Flags that were set and are put back.
use Rattle.std.proofs.Common.{◌≡◌, ℕ, List, [], ◌∷◌, ◌++◌, Bool, false, slice_index_or, slice_set, refl, ap, ◌∙◌}
use Rattle.std.proofs.lemmas.List.{set-get_or, set-set}
use Rattle.lucid_inline_count.specs.declared.held.Note.{Note}
use Rattle.lucid_inline_count.specs.Flags.{put_back}

pub put_back-append : (ns : List Note) (n : Note) (held : List Bool) → put_back (ns ++ n ∷ []) held ≡ put_back ns (slice_set held n.local n.was)
put_back-append [] n held = refl
put_back-append (m ∷ ns) n held = ap (λ (h : List Bool). slice_set h m.local m.was) (put_back-append ns n held)

-- A flag that was noted first leads back to the same flags.
pub put_back-noted : (ns : List Note) (held : List Bool) (i : ℕ) (flag : Bool) →
    put_back (ns ++ record { local = i; was = slice_index_or held i false } ∷ []) (slice_set held i flag) ≡ put_back ns held
put_back-noted ns held i flag =
    put_back-append ns (record { local = i; was = slice_index_or held i false }) (slice_set held i flag)
    ∙ ap (put_back ns) (set-set held i flag (slice_index_or held i false) ∙ set-get_or held i false)

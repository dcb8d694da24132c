-- The rest of a list's texts, one after another.
use Rattle.std.proofs.Common.{◌≡◌, ◌≢◌, ℕ, ◌+◌, ◌<◌, ◌≤◌, List, [], ◌∷◌, ◌++◌, codes, length, get_or, drop, refl, sym, ap, ◌∙◌, drop-cons, drop_of_length-le, add-one}
use Rattle.std.specs.List.{flat_map}
use Rattle.lucid_base.specs.declared.array.ArrayDef.{ArrayDef}
use Rattle.lucid_code.specs.declared.op.Op.{Op}
use Rattle.lucid_code.specs.Parts.{CodeParts}
use Rattle.lucid_layout_text.specs.declared.table_line.TableLine.{TableLine}
use Rattle.lucid_layout_text.specs.Lines.{arrays_text, name_text, counts_text, line_text, text_of}

-- the next, and the others
pub texts_next : {A : Type 0} (text : A → List ℕ) (xs : List A) (i : ℕ) (d : A) → i < length xs → flat_map text (drop i xs) ≡ text (get_or xs i d) ++ flat_map text (drop (i + 1) xs)
texts_next text xs i d lt = rw (add-one, drop-cons xs i d lt) refl

-- the same of an element that is seen in its place
pub texts_item : {A : Type 0} (text : A → List ℕ) (xs : List A) (i : ℕ) (x : A) → i < length xs → x ≡ get_or xs i x → flat_map text (drop i xs) ≡ text x ++ flat_map text (drop (i + 1) xs)
texts_item text xs i x lt is = texts_next text xs i x lt ∙ ap (λ y. text y ++ flat_map text (drop (i + 1) xs)) (sym is)

-- no more
pub texts_none : {A : Type 0} (text : A → List ℕ) (xs : List A) (i : ℕ) → length xs ≤ i → flat_map text (drop i xs) ≡ []
texts_none text xs i le = ap (λ (l : List _). flat_map text l) (drop_of_length-le xs le)

-- the names of some arrays
pub arrays_some : (arrays : List ArrayDef) (gs : List ℕ) → length gs ≢ 0 → arrays_text arrays gs ≡ codes " arrays" ++ flat_map (name_text arrays) gs
arrays_some arrays [] some = absurd (some refl)
arrays_some arrays (g ∷ gs) some = refl

-- the counts, and then the lines
pub whole : {text : List ℕ} (code : CodeParts) (bits nodes : ℕ) (lines : List TableLine) (ops : List Op) (arrays : List ArrayDef) (seen : List TableLine) →
    text_of code bits nodes lines ≡ text → ops ≡ code.ops → arrays ≡ code.arrays → seen ≡ lines → text ≡ counts_text (length ops) bits nodes ++ flat_map (line_text arrays) seen
whole code bits nodes lines ops arrays seen is ops_are arrays_are lines_are = rw (ops_are, arrays_are, lines_are) (sym is)

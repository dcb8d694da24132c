-- Facts of all reads of an operation, by its guard and its act: a literal whose value fits its field names one that exists.
use Rattle.std.proofs.Common.{◌≡◌, ◌∙◌, ℕ, ◌^◌, List, [], ◌∷◌, Option, None, Some, Bool, true, false, ◌&&◌, length, map, nat_lt, slice_get, sym, ap, refl}
use Rattle.std.specs.List.{list_all, flat_map}
use Rattle.std.specs.Option.{option_map_or}
use Rattle.std.proofs.lemmas.Bool.{and_parts, and_from, and_right, lt-ltb, true≢false}
use Rattle.std.proofs.lemmas.Option.{slice_get_within}
use Rattle.std.proofs.lemmas.List.Folds.{list_all-append, list_all-map}
use Rattle.lucid_base.specs.declared.array.ArrayDef.{ArrayDef}
use Rattle.lucid_code.specs.declared.inputs.Inputs.{Inputs}
use Rattle.lucid_code.specs.declared.op.Literal.{Literal}
use Rattle.lucid_code.specs.declared.op.Op.{Op}
use Rattle.lucid_code.specs.Sound.{act_names_are_there}
use Rattle.lucid_code.specs.Uses.{written_by, called_by, operands_of, field_of, read_by}
use Rattle.lucid_code.specs.Valid.{op_is_sound, inputs_stay, widths_agree, act_keeps_limits, literal_fits}

pub all_read : (p : ℕ → Bool) (o : Op) → list_all p (read_by o) ≡ (list_all (λ l. p l.field) o.guard && list_all p (flat_map field_of (operands_of o.act)))
all_read p o =
    list_all-append p (map (λ l. l.field) o.guard) (flat_map field_of (operands_of o.act))
    ∙ ap (λ b. b && list_all p (flat_map field_of (operands_of o.act))) (list_all-map p (λ l. l.field) o.guard)

is_there : (fields : List ℕ) (k v : ℕ) → option_map_or (λ w. nat_lt v (2 ^ w)) (slice_get fields k) false ≡ true → nat_lt k (length fields) ≡ true
is_there fields k v h =
    by (slice_get fields k) refl h
  where
    by : (found : Option ℕ) → slice_get fields k ≡ found → option_map_or (λ w. nat_lt v (2 ^ w)) found false ≡ true → nat_lt k (length fields) ≡ true
    by None e t = absurd (true≢false (sym t))
    by (Some w) e t = lt-ltb k (length fields) (slice_get_within fields k w e)

all_there : (fields : List ℕ) (guard : List Literal) → list_all (literal_fits fields) guard ≡ true → list_all (λ l. nat_lt l.field (length fields)) guard ≡ true
all_there fields [] h = refl
all_there fields (l ∷ guard) h =
    let both = and_parts (literal_fits fields l) (list_all (literal_fits fields) guard) h in
    and_from (nat_lt l.field (length fields)) (list_all (λ m. nat_lt m.field (length fields)) guard) (is_there fields l.field l.value both.0) (all_there fields guard both.1)

left_out : (there reads written called inputs widths limits fits : Bool) → (fits ≡ true → there ≡ true) → ((there && reads) && written && called && inputs && widths && limits && fits) ≡ (reads && written && called && inputs && widths && limits && fits)
left_out true reads written called inputs widths limits fits h = refl
left_out false reads written called inputs widths limits true h = absurd (true≢false (sym (h refl)))
left_out false reads written called inputs widths limits false h = sym (and_right (reads && written && called && inputs && widths && limits) false refl)

pub sound_by_act : (fields : List ℕ) (inputs : Inputs) (arrays : List ArrayDef) (o : Op) → op_is_sound fields inputs arrays o ≡ (act_names_are_there fields arrays o.act && inputs_stay inputs o.act && widths_agree fields arrays o.act && act_keeps_limits o.act && list_all (literal_fits fields) o.guard)
sound_by_act fields inputs arrays o =
    let written = option_map_or (λ k. nat_lt k (length fields)) (written_by o.act) true in
    let called = option_map_or (λ k. nat_lt k (length arrays)) (called_by o.act) true in
    ap (λ b. b && written && called && inputs_stay inputs o.act && widths_agree fields arrays o.act && act_keeps_limits o.act && list_all (literal_fits fields) o.guard) (all_read (λ k. nat_lt k (length fields)) o)
    ∙ left_out (list_all (λ l. nat_lt l.field (length fields)) o.guard) (list_all (λ k. nat_lt k (length fields)) (flat_map field_of (operands_of o.act))) written called (inputs_stay inputs o.act) (widths_agree fields arrays o.act) (act_keeps_limits o.act) (list_all (literal_fits fields) o.guard)
    (all_there fields o.guard)

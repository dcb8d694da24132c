-- The widths of inputs, the operands of the parameters, and the operations of handlers, one after another.
use Rattle.std.proofs.Common.{◌≡◌, ◌<◌, ◌≤◌, ◌+◌, ◌-◌, ℕ, List, [], ◌∷◌, Option, Some, None, Bool, true, false, if◌then◌else◌, nat_lt, arith, drop, get_or, length, take, ◌++◌, map, refl, ap, ap₂, sym, ◌∙◌}
use Rattle.std.proofs.lemmas.Bool.{ltb-false, ltb-true}
use Rattle.std.proofs.lemmas.List.{append_assoc, drop_all, drop_more, take_rest}
use Rattle.lucid_code.specs.declared.op.Op.{Op}
use Rattle.lucid_code.specs.declared.op.Operand.TheVariants.{Field}
use Rattle.lucid_core.specs.Parts.{CoreParts}
use Rattle.lucid_core.specs.declared.defs.HandlerDef.{HandlerDef}
use Rattle.lucid_normal_spec.specs.declared.env.Typed.{Typed}
use Rattle.lucid_normal_spec.specs.Program.{codes_of, held_from, start, widest}
use Rattle.lucid_normal_spec.specs.Translate.{body_code, guarded, is}

widest_none : (xs : List ℕ) → widest xs [] ≡ xs
widest_none [] = refl
widest_none (x ∷ xs) = refl

-- The second list has ended.
pub first_left : (xs ys : List ℕ) (at : ℕ) → length ys ≤ at → take (length xs - at) (drop at xs) ≡ widest (drop at xs) (drop at ys)
first_left xs ys at ended = take_rest xs at ∙ sym (widest_none (drop at xs)) ∙ ap (widest (drop at xs)) (sym (drop_all at ys ended))

-- The first list has ended.
pub second_left : (xs ys : List ℕ) (at : ℕ) → length xs ≤ at → take (length ys - at) (drop at ys) ≡ widest (drop at xs) (drop at ys)
second_left xs ys at ended = take_rest ys at ∙ ap (λ zs. widest zs (drop at ys)) (sym (drop_all at xs ended))

-- The operand of one local, and then the rest.
pub held_next : (k k' i : ℕ) (params locals : List ℕ) (w : ℕ) (b : Bool) (r : Option Typed) → k' ≡ k + 1 → r ≡ (if b then Some (record { operand = Field k; width = w }) else None) →
    nat_lt i (length params) ≡ b → i < length locals → w ≡ get_or locals i w → held_from k (drop i params) (drop i locals) ≡ r ∷ held_from k' (drop (i + 1) params) (drop (i + 1) locals)
held_next k k' i params locals w true r next made is there at =
    let within : i < length params = ltb-true i (length params) is in
    ap₂ (held_from k) (drop_more params i 0 within) (drop_more locals i w there ∙ ap (λ x. x ∷ drop (i + 1) locals) (sym at))
    ∙ ap₂ (λ x n. x ∷ held_from n (drop (i + 1) params) (drop (i + 1) locals)) (sym made) (sym next)
held_next k k' i params locals w false r next made is there at =
    let past : length params ≤ i = ltb-false i (length params) is in
    let behind : length params ≤ i + 1 = omega (arith, past) in
    ap₂ (held_from k) (drop_all i params past) (drop_more locals i w there ∙ ap (λ x. x ∷ drop (i + 1) locals) (sym at))
    ∙ ap (λ ps. None ∷ held_from k' ps (drop (i + 1) locals)) (sym (drop_all (i + 1) params behind))
    ∙ ap (λ x. x ∷ held_from k' (drop (i + 1) params) (drop (i + 1) locals)) (sym made)

pub held_end : (k : ℕ) (params : List ℕ) → held_from k params [] ≡ []
held_end k [] = refl
held_end k (w ∷ ws) = refl

-- The operations of one handler, and then those of the rest.
module _ (parts : CoreParts) (items hs : List HandlerDef) (same : items ≡ hs) (i : ℕ) (h : HandlerDef) (there : i < length items) (is_at : h ≡ get_or items i h) (w w' : List ℕ)
    (made : w' ≡ (body_code h.body (start parts w h)).env.widths) where
  next : drop i hs ≡ h ∷ drop (i + 1) hs
  next = sym (ap (drop i) same) ∙ drop_more items i h there ∙ ap (λ x. x ∷ drop (i + 1) items) (sym is_at) ∙ ap (λ l. h ∷ drop (i + 1) l) same

  pub widths_next : (codes_of parts w' (drop (i + 1) hs)).widths ≡ (codes_of parts w (drop i hs)).widths
  widths_next = ap (λ v. (codes_of parts v (drop (i + 1) hs)).widths) made ∙ sym (ap (λ l. (codes_of parts w l).widths) next)

  pub ops_next : (ops ops' : List Op) → ops' ≡ ops ++ map (guarded (is 0 h.event)) (body_code h.body (start parts w h)).ops →
      ops' ++ (codes_of parts w' (drop (i + 1) hs)).ops ≡ ops ++ (codes_of parts w (drop i hs)).ops
  ops_next ops ops' added =
      ap₂ (λ o v. o ++ (codes_of parts v (drop (i + 1) hs)).ops) added made
      ∙ append_assoc ops _ _
      ∙ sym (ap (λ l. ops ++ (codes_of parts w l).ops) next)

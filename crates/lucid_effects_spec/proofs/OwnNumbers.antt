-- Where some numbering that rises along the declared arrays derives a handler, the arrays' own numbers do.
use Rattle.std.proofs.Common.{◌≡◌, ℕ, ◌+◌, ◌<◌, ◌≤◌, max, true, Some, length, map, ap, arith, slice_get, ◌⊎◌, inl, inr}
use Rattle.std.proofs.lemmas.Bool.{and_parts, cases_lt}
use Rattle.std.proofs.lemmas.List.{length-map}
use Rattle.lucid_base.specs.declared.array.ArrayName.TheVariants.{Global}
use Rattle.lucid_core.specs.declared.defs.HandlerDef.{HandlerDef}
use Rattle.lucid_core.specs.Names.{names_are_there, stmt_names}
use Rattle.lucid_core.specs.Parts.{CoreParts}
use Rattle.lucid_core.specs.Scope.{each, handler_scope}
use Rattle.lucid_core.specs.Valid.{IsSound}
use Rattle.lucid_core.proofs.WidthLists.{passes_at}
use Rattle.lucid_effects_spec.specs.Ends as o
use Rattle.lucid_effects_spec.specs.Ends.{Numbering, Derives}
use Rattle.lucid_effects_spec.specs.Laws.{OwnNumbersDecide, own_numbers}
use Rattle.lucid_constraints.specs.Cycle.{Rises}
use Rattle.lucid_effects_spec.specs.Order.{InOrder}
use Rattle.lucid_effects_spec.proofs.Transfer.{CallTransfers, all_transfer, body_keeps}

-- Every array that is not passed by the first place is not passed by the second.
abbrev NoLater : ℕ → Numbering → ℕ → ℕ → Type 0
NoLater n N c d = (a : ℕ) → a < max n 1 → c ≤ N (Global a) → d ≤ a

later_of_both : (n : ℕ) (N : Numbering) (c d e f : ℕ) → NoLater n N c d → NoLater n N e f → NoLater n N (max c e) (max d f)
later_of_both n N c d e f r s a l h = let left = r a l (omega arith) in let right = s a l (omega arith) in omega arith

module _ (n : ℕ) (N : Numbering) (rises : Rises n N) where
  behind : (i a : ℕ) → i < max n 1 → N (Global i) + 1 ≤ N (Global a) → i + 1 ≤ a
  behind i a l h = of (cases_lt i a)
    where
      at : (a < i) ⊎ (i ≤ a) → a ≤ i → ⊥
      at (inl k) le = let up = rises a i k (omega arith) in omega arith
      at (inr k) le = let is : i ≡ a = omega arith in let same = ap (λ j. N (Global j)) is in omega arith

      of : (i < a) ⊎ (a ≤ i) → i + 1 ≤ a
      of (inl k) = omega arith
      of (inr k) = absurd (at (cases_lt a i) k)

  call_by_number : (i : ℕ) → i < max n 1 → CallTransfers (NoLater n N) (N (Global i)) i
  call_by_number i l c d r le = (r i l le, λ a _ h. behind i a l h)

-- The derivation by own numbers, of a handler that is in order.
pub by_own_numbers : (parts : CoreParts) → names_are_there parts ≡ true → (k : ℕ) (h : HandlerDef) → slice_get parts.handlers k ≡ Some h → InOrder (length parts.arrays) parts.funs h.body →
    (end : ℕ) × Derives parts.funs own_numbers 0 h.body end
by_own_numbers parts names k h is order =
    let n = length parts.arrays in
    let N = order.numbering in
    let bodies = and_parts _ _ (and_parts _ _ names).0 in
    let named = passes_at (λ (g : HandlerDef). each (map stmt_names g.body) (handler_scope parts g)) parts.handlers k h bodies.1 is in
    let count : length (map (λ a. a.width) parts.arrays) ≡ n = length-map parts.arrays (λ a. a.width) in
    let call = call_by_number n N order.rises in
    let found = body_keeps (NoLater n N) (later_of_both n N) (handler_scope parts h) (o.ends_of parts.funs) (all_transfer (NoLater n N) (later_of_both n N) parts bodies.0) N own_numbers
    (record { first = call 0 (omega arith); declared = λ i l. call i (omega arith); given = λ i l. absurd (omega arith) }) h.body named 0 0 (λ a l _. omega arith) order.end order.derived in
    (found.0, found.1)

pub own_numbers_decide : (parts : CoreParts) → IsSound parts → OwnNumbersDecide parts
own_numbers_decide parts sound k h is = (by_own_numbers parts sound.names k h is, λ found. record { numbering = own_numbers; rises = λ a b l _. l; end = found.0; derived = found.1 })

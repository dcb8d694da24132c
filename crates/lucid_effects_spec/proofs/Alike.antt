-- Where a body ends turns on the numbers of those arrays alone that are there.
use Rattle.std.proofs.Common.{◌≡◌, ℕ, ◌+◌, max, List, true, Option, None, Some, length, map, refl, sym, ap, ap₂, subst, ◌∙◌, arith}
use Rattle.std.proofs.lemmas.Bool.{and_parts}
use Rattle.std.proofs.lemmas.List.{length-map}
use Rattle.lucid_base.specs.declared.array.ArrayName.TheVariants.{Global, Param}
use Rattle.lucid_core.specs.declared.body.Stmt.{Stmt}
use Rattle.lucid_core.specs.Names.{stmt_names}
use Rattle.lucid_core.specs.Parts.{CoreParts}
use Rattle.lucid_core.specs.Scope.{Scope, each, handler_scope}
use Rattle.lucid_core.specs.Valid.{IsSound}
use Rattle.lucid_core.proofs.WidthLists.{passes_at}
use Rattle.lucid_effects_spec.specs.Ends as o
use Rattle.lucid_effects_spec.specs.Ends.{FunEnd, Numbering, body_end}
use Rattle.lucid_effects_spec.specs.Laws.{Agree, EndsTurnOnDeclared}
use Rattle.lucid_effects_spec.proofs.Transfer.{AllTransfer, CallTransfers, Related, all_transfer, body_keeps}

abbrev pub Same : ℕ → ℕ → Type 0
Same c d = c ≡ d

same_max : (c d e f : ℕ) → c ≡ d → e ≡ f → max c e ≡ max d f
same_max c d e f h k = ap₂ max h k

call_same : (n m : ℕ) → n ≡ m → CallTransfers Same n m
call_same n m h c d r le = (omega arith, ap (λ x. x + 1) h)

related : (arrays params : ℕ) (N M : Numbering) → Agree arrays params N M → Related Same arrays params N M
related arrays params N M agree = record {
  first = call_same (N (Global 0)) (M (Global 0)) agree.first;
  declared = λ i l. call_same (N (Global i)) (M (Global i)) (agree.declared i l);
  given = λ i l. call_same (N (Param i)) (M (Param i)) (agree.given i l);
}

turned : (arrays params : ℕ) (N M : Numbering) → Agree arrays params N M → Agree arrays params M N
turned arrays params N M agree = record { first = sym agree.first; declared = λ i l. sym (agree.declared i l); given = λ i l. sym (agree.given i l) }

-- Each ends where the other does.
same_ends : (x y : Option ℕ) → ((e : ℕ) → x ≡ Some e → (z : ℕ) × (y ≡ Some z) × (e ≡ z)) → ((e : ℕ) → y ≡ Some e → (z : ℕ) × (x ≡ Some z) × (e ≡ z)) → x ≡ y
same_ends None None h k = refl
same_ends None (Some b) h k = let found = k b refl in let e = found.1 in cc
same_ends (Some a) y h k = let found = h a refl in ap Some found.2 ∙ sym found.1

-- In a scope, behind functions of which this holds.
pub body_alike : (s : Scope) (fs : List FunEnd) → AllTransfer Same (length s.arrays) fs → (N M : Numbering) → Agree (length s.arrays) (length s.params) N M →
    (ss : List Stmt) → each (map stmt_names ss) s ≡ true → (c : ℕ) → body_end ss fs N c ≡ body_end ss fs M c
body_alike s fs all N M agree ss named c =
    let there = related (length s.arrays) (length s.params) N M agree in
    let back = related (length s.arrays) (length s.params) M N (turned (length s.arrays) (length s.params) N M agree) in
    same_ends (body_end ss fs N c) (body_end ss fs M c) (body_keeps Same same_max s fs all N M there ss named c c refl) (body_keeps Same same_max s fs all M N back ss named c c refl)

-- It holds of all functions of a program.
pub funs_alike : (parts : CoreParts) → IsSound parts → AllTransfer Same (length (map (λ a. a.width) parts.arrays)) (o.ends_of parts.funs)
funs_alike parts sound = all_transfer Same same_max parts (and_parts _ _ (and_parts _ _ sound.names).0).0

pub handlers_alike : (parts : CoreParts) → IsSound parts → EndsTurnOnDeclared parts
handlers_alike parts sound k h is N M agree c =
    let bodies = and_parts _ _ (and_parts _ _ sound.names).0 in
    let named = passes_at (λ g. each (map stmt_names g.body) (handler_scope parts g)) parts.handlers k h bodies.1 is in
    body_alike (handler_scope parts h) (o.ends_of parts.funs) (funs_alike parts sound) N M (subst (λ n. Agree n 0 N M) (sym (length-map parts.arrays (λ a. a.width))) agree) h.body named c

-- The meaning of a derivation under one numbering for another: by induction on the tree, for any relation of places that calls keep.
use Rattle.std.proofs.Common.{◌≡◌, ℕ, zero, suc, ◌+◌, ◌<◌, ◌≤◌, max, List, [], ◌∷◌, ◌++◌, Bool, true, false, if◌then◌else◌, Option, None, Some, length, map, fold, refl, ap, subst, ◌∙◌, option_and_then, nat_le, slice_get, slice_index_or}
use Rattle.std.specs.List.{list_all}
use Rattle.std.specs.Option.{option_map_or}
use Rattle.std.proofs.lemmas.Bool.{and_parts, leb-true, le-leb, ltb-true}
use Rattle.lucid_base.specs.Arrays.{name_at}
use Rattle.lucid_base.specs.declared.array.ArrayName.{ArrayName}
use Rattle.lucid_base.specs.declared.array.ArrayName.TheVariants.{Global, Param}
use Rattle.lucid_core.specs.declared.body.Stmt.{Stmt}
use Rattle.lucid_core.specs.declared.defs.FunDef.{FunDef}
use Rattle.lucid_core.specs.Names.{is_array, stmt_names}
use Rattle.lucid_core.specs.Parts.{CoreParts}
use Rattle.lucid_core.specs.Scope.{Scope, each, fun_scope, funs_pass}
use Rattle.lucid_effects_spec.specs.Ends as o
use Rattle.lucid_effects_spec.specs.Ends.{End, FunEnd, Numbering, ◌⨾◌, larger, body_end, expr_end, stmt_end, touch_end}
use Rattle.lucid_effects_spec.proofs.Within.{body_keeps as within}

-- From related places: where the first ends, the second ends too, and their ends are related.
abbrev pub Transfers : (ℕ → ℕ → Type 0) → (ℕ → Option ℕ) → (ℕ → Option ℕ) → Type 0
Transfers R f g = (c d : ℕ) → R c d → (e : ℕ) → f c ≡ Some e → (z : ℕ) × (g d ≡ Some z) × R e z

-- So do calls of an array that has these two numbers.
abbrev pub CallTransfers : (ℕ → ℕ → Type 0) → ℕ → ℕ → Type 0
CallTransfers R n m = (c d : ℕ) → R c d → c ≤ n → (d ≤ m) × R (n + 1) (m + 1)

-- So do those of the declared arrays, of this many array parameters, and of array 0, which replaces a missing argument.
pub record Related (R : ℕ → ℕ → Type 0) (arrays params : ℕ) (N M : Numbering) : Type 0 where
  pub first : CallTransfers R (N (Global 0)) (M (Global 0))
  pub declared : (i : ℕ) → i < arrays → CallTransfers R (N (Global i)) (M (Global i))
  pub given : (i : ℕ) → i < params → CallTransfers R (N (Param i)) (M (Param i))

-- A function does where calls of all its parameters do.
pub record FunTransfers (R : ℕ → ℕ → Type 0) (arrays : ℕ) (g : FunEnd) : Type 0 where
  pub is : (N M : Numbering) → ((params : ℕ) → Related R arrays params N M) → Transfers R (g N) (g M)

abbrev pub AllTransfer : (ℕ → ℕ → Type 0) → ℕ → List FunEnd → Type 0
AllTransfer R arrays [] = Unit {0}
AllTransfer R arrays (g ∷ gs) = FunTransfers R arrays g × AllTransfer R arrays gs

one_more : (R : ℕ → ℕ → Type 0) (arrays : ℕ) (gs : List FunEnd) (g : FunEnd) → AllTransfer R arrays gs → FunTransfers R arrays g → AllTransfer R arrays (gs ++ g ∷ [])
one_more R arrays [] g h one = (one, tt)
one_more R arrays (x ∷ gs) g h one = (h.0, one_more R arrays gs g h.1 one)

pub some_then : (g : ℕ → Option ℕ) (o : Option ℕ) (d : ℕ) → option_and_then g o ≡ Some d → (n : ℕ) × (o ≡ Some n) × (g n ≡ Some d)
some_then g None d h = cc
some_then g (Some n) d h = (n, refl, h)

-- A relation that holds of the larger of two places where it holds of both.
module _ (R : ℕ → ℕ → Type 0) (joins : (c d e f : ℕ) → R c d → R e f → R (max c e) (max d f)) where
  module _ (s : Scope) (fs : List FunEnd) (ok : AllTransfer R (length s.arrays) fs) (N M : Numbering) (related : Related R (length s.arrays) (length s.params) N M) where
    still : Transfers R (λ c. Some c) (λ d. Some d)
    still c d r e is = let same : c ≡ e = cc in (d, refl, subst (λ x. R x d) same r)

    keep_then : (f g : End) → Transfers R (f fs N) (f fs M) → Transfers R (g fs N) (g fs M) → Transfers R ((f ⨾ g) fs N) ((f ⨾ g) fs M)
    keep_then f g h k c d r e is =
        let split = some_then (g fs N) (f fs N c) e is in
        let first = h c d r split.0 split.1 in
        let next = k split.0 first.0 first.2 e split.2 in
        (next.0, ap (option_and_then (g fs M)) first.1 ∙ next.1, next.2)

    keep_larger : (f g : End) → Transfers R (f fs N) (f fs M) → Transfers R (g fs N) (g fs M) → Transfers R (larger f g fs N) (larger f g fs M)
    keep_larger f g h k c d r e is =
        let left = some_then (λ x. option_and_then (λ y. Some (max x y)) (g fs N c)) (f fs N c) e is in
        let right = some_then (λ y. Some (max left.0 y)) (g fs N c) e left.2 in
        let a = h c d r left.0 left.1 in
        let b = k c d r right.0 right.1 in
        let most : max left.0 right.0 ≡ e = let z = right.2 in cc in
        (max a.0 b.0, ap (option_and_then (λ x. option_and_then (λ y. Some (max x y)) (g fs M d))) a.1 ∙ ap (option_and_then (λ y. Some (max a.0 y))) b.1, subst (λ x. R x (max a.0 b.0)) most (joins left.0 a.0 right.0 b.0 a.2 b.2))

    related_at : (y : ArrayName) → is_array s.arrays s.params y ≡ true → CallTransfers R (N y) (M y)
    related_at (Global a) h = related.declared a (ltb-true a (length s.arrays) h)
    related_at (Param i) h = related.given i (ltb-true i (length s.params) h)

    passes_keep : (y : ArrayName) → is_array s.arrays s.params y ≡ true → Transfers R (o.passes y fs N) (o.passes y fs M)
    passes_keep y h c d r e is = pick (nat_le c (N y)) refl is
      where
        pick : (b : Bool) → nat_le c (N y) ≡ b → (if b then Some (N y + 1) else None) ≡ Some e → (z : ℕ) × ((if nat_le d (M y) then Some (M y + 1) else None) ≡ Some z) × R e z
        pick true t k =
            let kept = related_at y h c d r (leb-true c (N y) t) in
            let end : N y + 1 ≡ e = cc in
            (M y + 1, ap (λ (b : Bool). if b then Some (M y + 1) else None) (le-leb d (M y) kept.0), subst (λ x. R x (M y + 1)) end kept.1)
        pick false t k = cc

    argument_related : (names : List ArrayName) → list_all (is_array s.arrays s.params) names ≡ true → (i : ℕ) → CallTransfers R (N (slice_index_or names i (Global 0))) (M (slice_index_or names i (Global 0)))
    argument_related [] h i = related.first
    argument_related (x ∷ xs) h zero = related_at x (and_parts _ _ h).0
    argument_related (x ∷ xs) h (suc i) = argument_related xs (and_parts _ _ h).1 i

    found_keeps : (names : List ArrayName) → list_all (is_array s.arrays s.params) names ≡ true → (gs : List FunEnd) → AllTransfer R (length s.arrays) gs → (k : ℕ) →
        Transfers R (λ c. option_map_or (λ f. f (λ y. N (name_at names y)) c) (slice_get gs k) (Some c)) (λ d. option_map_or (λ f. f (λ y. M (name_at names y)) d) (slice_get gs k) (Some d))
    found_keeps names h [] all k = still
    found_keeps names h (g ∷ gs) all zero = all.0.is (λ y. N (name_at names y)) (λ y. M (name_at names y))
        (λ params. record { first = related.first; declared = related.declared; given = λ i _. argument_related names h i })
    found_keeps names h (g ∷ gs) all (suc k) = found_keeps names h gs all.1 k

    pub body_keeps : (ss : List Stmt) → each (map stmt_names ss) s ≡ true → Transfers R (body_end ss fs N) (body_end ss fs M)
    body_keeps = within s o.ends (λ f. Transfers R (f fs N) (f fs M)) still keep_then keep_larger passes_keep (λ k names h. found_keeps names h fs ok k) (λ f h. h)

  -- Functions, each behind those before it.
  abbrev fun_named : CoreParts → List FunDef → FunDef → Bool
  fun_named parts before f = each (map stmt_names f.body) (fun_scope parts before f)

  abbrev width_count : CoreParts → ℕ
  width_count parts = length (map (λ a. a.width) parts.arrays)

  funs_transfer : (parts : CoreParts) (before : List FunDef) (ends : List FunEnd) (fs : List FunDef) → AllTransfer R (width_count parts) ends → funs_pass (fun_named parts) before fs ≡ true →
      AllTransfer R (width_count parts) (fold (λ known f. known ++ body_end f.body known ∷ []) ends fs)
  funs_transfer parts before ends [] all h = all
  funs_transfer parts before ends (f ∷ fs) all h =
      let both = and_parts _ _ h in
      let one : FunTransfers R (width_count parts) (body_end f.body ends) = record { is = λ N M related. body_keeps (fun_scope parts before f) ends all N M (related (length f.arrays)) f.body both.0 } in
      funs_transfer parts (before ++ f ∷ []) (ends ++ body_end f.body ends ∷ []) fs (one_more R (width_count parts) ends (body_end f.body ends) all one) both.1

  pub all_transfer : (parts : CoreParts) → funs_pass (fun_named parts) [] parts.funs ≡ true → AllTransfer R (width_count parts) (o.ends_of parts.funs)
  all_transfer parts h = funs_transfer parts [] [] parts.funs tt h

-- Tallies of lists.
use Rattle.std.proofs.Common.{◌≡◌, ℕ, ◌+◌, ◌<◌, List, [], ◌∷◌, ◌++◌, Bool, true, ◌&&◌, get_or, length, map, take, refl, sym, ap, ap₂, ◌∙◌, arith}
use Rattle.std.proofs.lemmas.List.{map-append, take_more}
use Rattle.std.proofs.lemmas.List.Folds.{list_all-append}
use Rattle.lucid_core.specs.Numbers.{all_hold}
use Rattle.lucid_core.specs.OutCount.{Count, total}
use Rattle.lucid_types_limits.specs.declared.tally.Tally.{Tally}
use Rattle.lucid_types_limits.specs.Tally.{in_turn, tally}

pub same : (m n : ℕ) (a b : Bool) → m ≡ n → a ≡ b → tally m a ≡ tally n b
same m n a b e f = ap₂ tally e f

pub total-append : (xs ys : List Count) (funs : List ℕ) → total (xs ++ ys) funs ≡ total xs funs + total ys funs
total-append [] ys funs = let z : 0 + total ys funs ≡ total ys funs = omega arith in sym z
total-append (x ∷ xs) ys funs = let e = total-append xs ys funs in omega arith

pub and_true : (a : Bool) → (a && true) ≡ a
and_true true = refl
and_true _ = refl

module _ {A : Type 0} (outs : A → Count) (few : A → Bool) (funs : List ℕ) where
  one_more : (xs : List A) (x : A) → in_turn outs few funs (xs ++ x ∷ []) ≡ tally (total (map outs xs) funs + outs x funs) (all_hold (map few xs) && few x)
  one_more xs x = same _ _ _ _
      (ap (λ (cs : List Count). total cs funs) (map-append outs xs (x ∷ [])) ∙ total-append (map outs xs) (outs x ∷ []) funs ∙ sum)
      (ap all_hold (map-append few xs (x ∷ [])) ∙ list_all-append (λ b. b) (map few xs) (few x ∷ []) ∙ ap (λ (b : Bool). all_hold (map few xs) && b) (and_true (few x)))
    where
      sum : total (map outs xs) funs + (outs x funs + 0) ≡ total (map outs xs) funs + outs x funs
      sum = omega arith

  -- The step of a loop over a list.
  pub next : (xs : List A) (i : ℕ) (x : A) (so_far one after : Tally) → i < length xs → get_or xs i x ≡ x →
      ((m n : ℕ) (a b : Bool) → so_far ≡ tally m a → one ≡ tally n b → after ≡ tally (m + n) (a && b)) →
      so_far ≡ in_turn outs few funs (take i xs) → one ≡ tally (outs x funs) (few x) → after ≡ in_turn outs few funs (take (i + 1) xs)
  next xs i x so_far one after less there joins before this =
      joins _ _ _ _ before this ∙ sym (one_more (take i xs) x)
      ∙ ap (in_turn outs few funs) (ap (λ y. take i xs ++ y ∷ []) (sym there) ∙ sym (take_more xs i x less))

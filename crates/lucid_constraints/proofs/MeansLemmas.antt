-- The meaning of needs and ends does not depend on repeats, and commutes with substitution.
use Rattle.std.proofs.Common.{◌≡◌, ℕ, ◌≤◌, max, Bool, true, false, if◌then◌else◌, ◌&&◌, nat_le, List, [], ◌∷◌, ◌++◌, map, refl, sym, ◌∙◌, ap, subst, arith}
use Rattle.std.specs.List.{list_any}
use Rattle.std.proofs.lemmas.Bool.Decides.{nat_tests}
use Rattle.lucid_base.specs.Arrays.{name_at}
use Rattle.lucid_base.specs.declared.array.ArrayName.{ArrayName}
use Rattle.lucid_constraints.specs.declared.pair.Atom.{Atom}
use Rattle.lucid_constraints.specs.declared.pair.Atom.TheVariants.{Start, After}
use Rattle.lucid_constraints.specs.declared.pair.Pair.{Pair}
use Rattle.lucid_constraints.specs.Same.{same_atom, same_pair, joined, join_all}
use Rattle.lucid_constraints.specs.Substitution.{pair, atoms_at, pairs_at, needs_from, ends_from}
use Rattle.lucid_constraints.proofs.SameLemmas.{same_atom_is, same_pair_is}
use Rattle.lucid_constraints.specs.Means.{place_of, allows, allow_all, greatest}

pub and_true : (a : Bool) → (a && true) ≡ a
and_true true = refl
and_true false = refl

pub and_assoc : (a b c : Bool) → ((a && b) && c) ≡ (a && (b && c))
and_assoc true b c = refl
and_assoc false b c = refl

and_again : (a b : Bool) → ((a && b) && a) ≡ (a && b)
and_again true true = refl
and_again true false = refl
and_again false b = refl

le_max : (a b k : ℕ) → nat_le (max a b) k ≡ (nat_le a k && nat_le b k)
le_max a b k = of (nat_le a k) (nat_le b k) (nat_le (max a b) k) refl refl refl
  where
    of : (p q r : Bool) → nat_le a k ≡ p → nat_le b k ≡ q → nat_le (max a b) k ≡ r → r ≡ (p && q)
    of true true true e f g = refl
    of true true false e f g = absurd (grind (arith, nat_tests))
    of true false true e f g = absurd (grind (arith, nat_tests))
    of true false false e f g = refl
    of false q true e f g = absurd (grind (arith, nat_tests))
    of false q false e f g = refl

module _ (N : ArrayName → ℕ) (c : ℕ) where
  allow-push : (ps : List Pair) (p : Pair) → allow_all N c (ps ++ p ∷ []) ≡ (allow_all N c ps && allows N c p)
  allow-push [] p = and_true (allows N c p)
  allow-push (q ∷ ps) p = ap (λ b. allows N c q && b) (allow-push ps p) ∙ sym (and_assoc (allows N c q) (allow_all N c ps) (allows N c p))

  allow-there : (ps : List Pair) (p : Pair) → list_any (same_pair p) ps ≡ true → allow_all N c ps ≡ (allow_all N c ps && allows N c p)
  allow-there [] p h = cc
  allow-there (q ∷ ps) p h = of (same_pair p q) refl (λ more. allow-there ps p more)
    where
      of : (b : Bool) → same_pair p q ≡ b → (list_any (same_pair p) ps ≡ true → allow_all N c ps ≡ (allow_all N c ps && allows N c p)) → allow_all N c (q ∷ ps) ≡ (allow_all N c (q ∷ ps) && allows N c p)
      of true e again = subst (λ (x : Pair). (allows N c q && allow_all N c ps) ≡ ((allows N c q && allow_all N c ps) && allows N c x)) (sym (same_pair_is p q e)) (sym (and_again (allows N c q) (allow_all N c ps)))
      of false e again = let more : list_any (same_pair p) ps ≡ true = cc in ap (λ b. allows N c q && b) (again more) ∙ sym (and_assoc (allows N c q) (allow_all N c ps) (allows N c p))

  pub allow-joined : (ps : List Pair) (p : Pair) → allow_all N c (joined same_pair ps p) ≡ (allow_all N c ps && allows N c p)
  allow-joined ps p = of (list_any (same_pair p) ps) refl
    where
      of : (b : Bool) → list_any (same_pair p) ps ≡ b → allow_all N c (if b then ps else ps ++ p ∷ []) ≡ (allow_all N c ps && allows N c p)
      of true e = allow-there ps p e
      of false e = allow-push ps p

  pub allow-join_all : (ps qs : List Pair) → allow_all N c (join_all same_pair ps qs) ≡ (allow_all N c ps && allow_all N c qs)
  allow-join_all ps [] = sym (and_true (allow_all N c ps))
  allow-join_all ps (q ∷ qs) = allow-join_all (joined same_pair ps q) qs ∙ ap (λ b. b && allow_all N c qs) (allow-joined ps q) ∙ and_assoc (allow_all N c ps) (allows N c q) (allow_all N c qs)

  pub allow-from : (a : ArrayName) (xs : List Atom) → allow_all N c (map (pair a) xs) ≡ nat_le (greatest N c xs) (N a)
  allow-from a [] = grind (arith, nat_tests)
  allow-from a (x ∷ xs) = ap (λ b. nat_le (place_of N c x) (N a) && b) (allow-from a xs) ∙ sym (le_max (place_of N c x) (greatest N c xs) (N a))

  -- the ends
  greatest-push : (xs : List Atom) (x : Atom) → greatest N c (xs ++ x ∷ []) ≡ max (greatest N c xs) (place_of N c x)
  greatest-push [] x = omega arith
  greatest-push (y ∷ xs) x = omega (arith, greatest-push xs x)

  greatest-there : (xs : List Atom) (x : Atom) → list_any (same_atom x) xs ≡ true → place_of N c x ≤ greatest N c xs
  greatest-there [] x h = cc
  greatest-there (y ∷ xs) x h = of (same_atom x y) refl (λ more. greatest-there xs x more)
    where
      of : (b : Bool) → same_atom x y ≡ b → (list_any (same_atom x) xs ≡ true → place_of N c x ≤ greatest N c xs) → place_of N c x ≤ max (place_of N c y) (greatest N c xs)
      of true e again = let v : place_of N c x ≡ place_of N c y = ap (place_of N c) (same_atom_is x y e) in omega (arith, v)
      of false e again = let more : list_any (same_atom x) xs ≡ true = cc in omega (arith, again more)

  pub greatest-joined : (xs : List Atom) (x : Atom) → greatest N c (joined same_atom xs x) ≡ max (greatest N c xs) (place_of N c x)
  greatest-joined xs x = of (list_any (same_atom x) xs) refl
    where
      of : (b : Bool) → list_any (same_atom x) xs ≡ b → greatest N c (if b then xs else xs ++ x ∷ []) ≡ max (greatest N c xs) (place_of N c x)
      of true e = omega (arith, greatest-there xs x e)
      of false e = greatest-push xs x

  pub greatest-join_all : (xs ys : List Atom) → greatest N c (join_all same_atom xs ys) ≡ max (greatest N c xs) (greatest N c ys)
  greatest-join_all xs [] = omega arith
  greatest-join_all xs (y ∷ ys) = omega (arith, greatest-join_all (joined same_atom xs y) ys, greatest-joined xs y)

  -- a caller's arrays and places
  module _ (names : List ArrayName) (start : List Atom) where
    atoms-place : (x : Atom) → greatest N c (atoms_at names start x) ≡ place_of (λ y. N (name_at names y)) (greatest N c start) x
    atoms-place Start = refl
    atoms-place (After x) = omega arith

    pub needs-from : (done ps : List Pair) → allow_all N c (needs_from names start done ps) ≡ (allow_all N c done && allow_all (λ y. N (name_at names y)) (greatest N c start) ps)
    needs-from done [] = sym (and_true (allow_all N c done))
    needs-from done (p ∷ ps) =
        let one : allow_all N c (pairs_at names start p) ≡ allows (λ y. N (name_at names y)) (greatest N c start) p =
        allow-from (name_at names p.array) (atoms_at names start p.atom) ∙ ap (λ v. nat_le v (N (name_at names p.array))) (atoms-place p.atom) in
        let rest : Bool = allow_all (λ y. N (name_at names y)) (greatest N c start) ps in
        needs-from (join_all same_pair done (pairs_at names start p)) ps ∙ ap (λ b. b && rest) (allow-join_all done (pairs_at names start p) ∙ ap (λ b. allow_all N c done && b) one)
        ∙ and_assoc (allow_all N c done) (allows (λ y. N (name_at names y)) (greatest N c start) p) rest

    pub ends-from : (done xs : List Atom) → greatest N c (ends_from names start done xs) ≡ max (greatest N c done) (greatest (λ y. N (name_at names y)) (greatest N c start) xs)
    ends-from done [] = omega arith
    ends-from done (x ∷ xs) = omega (arith, ends-from (join_all same_atom done (atoms_at names start x)) xs, greatest-join_all done (atoms_at names start x), atoms-place x)

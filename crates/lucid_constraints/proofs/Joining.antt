-- Joining joined lists, and joining members.
use Rattle.std.proofs.Common.{◌≡◌, ◌∙◌, Bool, true, false, List, [], ◌∷◌, ◌++◌, if◌then◌else◌, ◌||◌, refl, sym, ap, subst}
use Rattle.std.specs.List.{list_all, list_any}
use Rattle.std.proofs.lemmas.Bool.{and_parts}
use Rattle.lucid_base.specs.declared.array.ArrayName.{ArrayName}
use Rattle.lucid_constraints.specs.declared.pair.Atom.{Atom}
use Rattle.lucid_constraints.specs.declared.pair.Pair.{Pair}
use Rattle.lucid_constraints.specs.Same.{same_pair, joined, join_all}
use Rattle.lucid_constraints.specs.Substitution.{needs_from, pairs_at}
use Rattle.lucid_constraints.proofs.SameLemmas.{same_pair_is, same_pair_refl}

abbrev In : Pair → List Pair → Type 0
In p xs = list_any (same_pair p) xs ≡ true

in_longer : (p : Pair) (xs ys : List Pair) → In p xs → In p (xs ++ ys)
in_longer p [] ys h = absurd (cc)
in_longer p (x ∷ xs) ys h = of (same_pair p x) refl (λ k. in_longer p xs ys k)
  where
    of : (b : Bool) → same_pair p x ≡ b → (In p xs → In p (xs ++ ys)) → (same_pair p x || list_any (same_pair p) (xs ++ ys)) ≡ true
    of true e again = ap (λ (t : Bool). t || list_any (same_pair p) (xs ++ ys)) e
    of false e again = ap (λ (t : Bool). t || list_any (same_pair p) (xs ++ ys)) e ∙ again (sym (ap (λ (t : Bool). t || list_any (same_pair p) xs) e) ∙ h)

in_last : (p : Pair) (xs : List Pair) → In p (xs ++ p ∷ [])
in_last p [] = ap (λ (t : Bool). t || false) (same_pair_refl p)
in_last p (x ∷ xs) = of (same_pair p x) refl (in_last p xs)
  where
    of : (b : Bool) → same_pair p x ≡ b → In p (xs ++ p ∷ []) → (same_pair p x || list_any (same_pair p) (xs ++ p ∷ [])) ≡ true
    of true e again = ap (λ (t : Bool). t || list_any (same_pair p) (xs ++ p ∷ [])) e
    of false e again = ap (λ (t : Bool). t || list_any (same_pair p) (xs ++ p ∷ [])) e ∙ again

-- where a pair is there, joining it changes nothing
same_still : (xs : List Pair) (p : Pair) → In p xs → joined same_pair xs p ≡ xs
same_still xs p h = ap (λ (b : Bool). if b then xs else xs ++ p ∷ []) h

new_last : (xs : List Pair) (p : Pair) → list_any (same_pair p) xs ≡ false → joined same_pair xs p ≡ xs ++ p ∷ []
new_last xs p h = ap (λ (b : Bool). if b then xs else xs ++ p ∷ []) h

in_joined : (p y : Pair) (xs : List Pair) → In p xs → In p (joined same_pair xs y)
in_joined p y xs h = of (list_any (same_pair y) xs) refl
  where
    of : (b : Bool) → list_any (same_pair y) xs ≡ b → In p (if b then xs else xs ++ y ∷ [])
    of true e = h
    of false e = in_longer p xs (y ∷ []) h

joined_in : (p : Pair) (xs : List Pair) → In p (joined same_pair xs p)
joined_in p xs = of (list_any (same_pair p) xs) refl
  where
    of : (b : Bool) → list_any (same_pair p) xs ≡ b → In p (if b then xs else xs ++ p ∷ [])
    of true e = e
    of false e = in_last p xs

stays : (p : Pair) (xs ys : List Pair) → In p xs → In p (join_all same_pair xs ys)
stays p xs [] h = h
stays p xs (y ∷ ys) h = stays p (joined same_pair xs y) ys (in_joined p y xs h)

comes : (p : Pair) (xs ys : List Pair) → In p ys → In p (join_all same_pair xs ys)
comes p xs [] h = absurd (cc)
comes p xs (y ∷ ys) h = of (same_pair p y) refl (λ k. comes p (joined same_pair xs y) ys k)
  where
    of : (b : Bool) → same_pair p y ≡ b → (In p ys → In p (join_all same_pair (joined same_pair xs y) ys)) → In p (join_all same_pair (joined same_pair xs y) ys)
    of true e again = stays p (joined same_pair xs y) ys (subst (λ (z : Pair). In p (joined same_pair xs z)) (same_pair_is p y e) (joined_in p xs))
    of false e again = again (sym (ap (λ (t : Bool). t || list_any (same_pair p) ys) e) ∙ h)

join_longer : (xs zs : List Pair) (y : Pair) → join_all same_pair xs (zs ++ y ∷ []) ≡ joined same_pair (join_all same_pair xs zs) y
join_longer xs [] y = refl
join_longer xs (z ∷ zs) y = join_longer (joined same_pair xs z) zs y

join_joined : (xs zs : List Pair) (y : Pair) → join_all same_pair xs (joined same_pair zs y) ≡ joined same_pair (join_all same_pair xs zs) y
join_joined xs zs y = of (list_any (same_pair y) zs) refl
  where
    of : (b : Bool) → list_any (same_pair y) zs ≡ b → join_all same_pair xs (if b then zs else zs ++ y ∷ []) ≡ joined same_pair (join_all same_pair xs zs) y
    of true e = sym (same_still (join_all same_pair xs zs) y (comes y xs zs e))
    of false e = join_longer xs zs y

onto : (xs zs ys : List Pair) → join_all same_pair xs (join_all same_pair zs ys) ≡ join_all same_pair (join_all same_pair xs zs) ys
onto xs zs [] = refl
onto xs zs (y ∷ ys) = onto xs (joined same_pair zs y) ys ∙ ap (λ (ps : List Pair). join_all same_pair ps ys) (join_joined xs zs y)

module _ (names : List ArrayName) (start : List Atom) where
  -- a function's pairs in the caller's names, joined to the caller's
  needs_onto : (xs zs ps : List Pair) → join_all same_pair xs (needs_from names start zs ps) ≡ needs_from names start (join_all same_pair xs zs) ps
  needs_onto xs zs [] = refl
  needs_onto xs zs (p ∷ ps) =
      needs_onto xs (join_all same_pair zs (pairs_at names start p)) ps
      ∙ ap (λ (qs : List Pair). needs_from names start qs ps) (onto xs zs (pairs_at names start p))

  pub needs_joined : (xs ps : List Pair) → needs_from names start xs ps ≡ join_all same_pair xs (needs_from names start [] ps)
  needs_joined xs ps = sym (needs_onto xs [] ps)

  still : (xs ys : List Pair) → list_all (λ p. list_any (same_pair p) xs) ys ≡ true → join_all same_pair xs ys ≡ xs
  still xs [] h = refl
  still xs (y ∷ ys) h =
      let both = and_parts (list_any (same_pair y) xs) (list_all (λ p. list_any (same_pair p) xs) ys) h in
      ap (λ (zs : List Pair). join_all same_pair zs ys) (same_still xs y both.0) ∙ still xs ys both.1

  -- where they are all there, nothing is joined
  pub nothing_new : (xs ps : List Pair) → list_all (λ q. list_all (λ p. list_any (same_pair p) xs) (pairs_at names start q)) ps ≡ true → needs_from names start xs ps ≡ xs
  nothing_new xs [] h = refl
  nothing_new xs (p ∷ ps) h =
      let both = and_parts (list_all (λ r. list_any (same_pair r) xs) (pairs_at names start p)) (list_all (λ q. list_all (λ r. list_any (same_pair r) xs) (pairs_at names start q)) ps) h in
      ap (λ (zs : List Pair). needs_from names start zs ps) (still xs (pairs_at names start p) both.0) ∙ nothing_new xs ps both.1

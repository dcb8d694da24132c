-- Pairs are allowed by a numbering exactly if it rises along the constraints.
use Rattle.std.proofs.Common.{◌≡◌, ℕ, ◌<◌, Bool, true, false, ◌&&◌, ◌||◌, nat_le, nat_lt, List, [], ◌∷◌, refl, ◌∙◌, ap, arith}
use Rattle.std.specs.List.{list_any}
use Rattle.std.proofs.lemmas.Bool.Decides.{nat_tests}
use Rattle.lucid_base.specs.declared.array.ArrayName.{ArrayName}
use Rattle.lucid_base.specs.declared.array.ArrayName.TheVariants.{Global, Param}
use Rattle.lucid_constraints.specs.declared.pair.Atom.{Atom}
use Rattle.lucid_constraints.specs.declared.pair.Atom.TheVariants.{Start, After}
use Rattle.lucid_constraints.specs.declared.pair.Pair.{Pair}
use Rattle.lucid_constraints.specs.Same.{same_pair}
use Rattle.lucid_constraints.specs.Means.{place_of, allows, allow_all}
use Rattle.lucid_constraints.proofs.MemberLemmas.{or_left, or_right}
use Rattle.lucid_constraints.proofs.SameLemmas.{same_pair_is, same_name_refl}
use Rattle.lucid_constraints.specs.Circle.{needed, earlier}
use Rattle.lucid_constraints.specs.Cycle.{Rises}

allow_found : (N : ArrayName → ℕ) (c : ℕ) (ps : List Pair) (x y : ArrayName) → allow_all N c ps ≡ true → list_any (same_pair (record { atom = After x; array = y })) ps ≡ true → N x < N y
allow_found N c [] x y h m = cc
allow_found N c (p ∷ ps) x y h m = of (same_pair q p) refl (allows N c p) refl (λ k l. allow_found N c ps x y k l)
  where
    q : Pair
    q = record { atom = After x; array = y }

    of : (b : Bool) → same_pair q p ≡ b → (d : Bool) → allows N c p ≡ d → (allow_all N c ps ≡ true → list_any (same_pair q) ps ≡ true → N x < N y) → N x < N y
    of true e true f again = let is : q ≡ p = same_pair_is q p e in let t : allows N c q ≡ true = ap (allows N c) is ∙ f in grind (arith, nat_tests)
    of b e false f again = cc
    of false e true f again = let k : allow_all N c ps ≡ true = cc in let l : list_any (same_pair q) ps ≡ true = cc in again k l

or_either : (a b : Bool) (X : Type 0) → (a || b) ≡ true → (a ≡ true → X) → (b ≡ true → X) → X
or_either true b X h f g = f refl
or_either false b X h f g = g h

pub rises_from : (N : ArrayName → ℕ) (c n : ℕ) (ps : List Pair) → Rises n N → allow_all N c ps ≡ true → (x y : ArrayName) → needed ps n x y ≡ true → N x < N y
rises_from N c n ps up h x y e =
    or_either (list_any (same_pair (record { atom = After x; array = y })) ps) (earlier n x y) (N x < N y) e (λ f. allow_found N c ps x y h f) (λ f. of x y f)
  where
    of : (x y : ArrayName) → earlier n x y ≡ true → N x < N y
    of (Global a) (Global b) f = in_order (nat_lt a b) (nat_lt b n) refl refl f
      where
        in_order : (s t : Bool) → nat_lt a b ≡ s → nat_lt b n ≡ t → (s && t) ≡ true → N (Global a) < N (Global b)
        in_order true true s t k = let l : a < b = grind (arith, nat_tests) in let m : b < n = grind (arith, nat_tests) in up a b l m
        in_order true false s t k = cc
        in_order false t e f k = cc
    of (Global a) (Param j) f = cc
    of (Param i) y f = cc

pub allow_from_rises : (N : ArrayName → ℕ) (ps : List Pair) → ((x y : ArrayName) → list_any (same_pair (record { atom = After x; array = y })) ps ≡ true → N x < N y) → allow_all N 0 ps ≡ true
allow_from_rises N [] h = refl
allow_from_rises N (p ∷ ps) h = rw (one p.atom refl) (allow_from_rises N ps (λ x y e. h x y (or_right (same_pair (record { atom = After x; array = y }) p) (list_any (same_pair (record { atom = After x; array = y })) ps) e)))
  where
    one : (a : Atom) → p.atom ≡ a → nat_le (place_of N 0 p.atom) (N p.array) ≡ true
    one Start e = rw e (grind (arith, nat_tests))
    one (After x) e =
        let q : Pair = record { atom = After x; array = p.array } in
        let there : same_pair (record { atom = After x; array = p.array }) p ≡ true = rw e (rw (same_name_refl x) (same_name_refl p.array)) in
        let less = h x p.array (or_left (same_pair (record { atom = After x; array = p.array }) p) (list_any (same_pair (record { atom = After x; array = p.array })) ps) there) in
        rw e (grind (arith, nat_tests))

-- The names that are gathered are all that count.
use Rattle.std.proofs.Common.{◌≡◌, ℕ, ◌+◌, ◌<◌, ◌≤◌, Bool, true, false, if◌then◌else◌, ◌||◌, List, [], ◌∷◌, ◌++◌, refl, sym, ap, subst, arith, ◌⊎◌, inl, inr}
use Rattle.std.specs.List.{list_any}
use Rattle.std.proofs.lemmas.Bool.{and_parts, ltb-true, cases_lt}
use Rattle.lucid_base.specs.declared.array.ArrayName.{ArrayName}
use Rattle.lucid_base.specs.declared.array.ArrayName.TheVariants.{Global, Param}
use Rattle.lucid_constraints.specs.declared.pair.Atom.TheVariants.{After}
use Rattle.lucid_constraints.specs.declared.pair.Pair.{Pair}
use Rattle.lucid_constraints.specs.Same.{same_name, same_pair, joined, join_all}
use Rattle.lucid_constraints.specs.Circle.{asked, needed, earlier, Member, OrderOn, HasDeclared, Covers, named, named_from}
use Rattle.lucid_constraints.proofs.MemberLemmas.{member_left, member_right}
use Rattle.lucid_constraints.proofs.SameLemmas.{same_name_is, same_pair_is}

pub one_more : (a : ℕ) (names more : List ArrayName) → HasDeclared a names → more ≡ names ++ Global a ∷ [] → HasDeclared (a + 1) more
one_more a names more h is b l = subst (λ (xs : List ArrayName). Member (Global b) xs) (sym is) (of (cases_lt b a))
  where
    of : (b < a) ⊎ (a ≤ b) → Member (Global b) (names ++ Global a ∷ [])
    of (inl k) = member_left (Global b) names (Global a ∷ []) (h b k)
    of (inr k) = let e : a ≡ b = omega arith in member_right (Global b) names (Global a ∷ []) (inl (ap Global e))

-- joined names are members, and so are the earlier ones
join_keeps : (x y : ArrayName) (xs : List ArrayName) → Member x xs → Member x (joined same_name xs y)
join_keeps x y xs m = of (list_any (same_name y) xs)
  where
    of : (b : Bool) → Member x (if b then xs else xs ++ y ∷ [])
    of true = m
    of false = member_left x xs (y ∷ []) m

found_there : (x : ArrayName) (xs : List ArrayName) → list_any (same_name x) xs ≡ true → Member x xs
found_there x [] h = absurd (cc)
found_there x (y ∷ xs) h = of (same_name x y) refl (λ more. found_there x xs more)
  where
    of : (b : Bool) → same_name x y ≡ b → (list_any (same_name x) xs ≡ true → Member x xs) → (y ≡ x) ⊎ Member x xs
    of true e again = inl (sym (same_name_is x y e))
    of false e again = let more : list_any (same_name x) xs ≡ true = cc in inr (again more)

join_puts : (x : ArrayName) (xs : List ArrayName) → Member x (joined same_name xs x)
join_puts x xs = of (list_any (same_name x) xs) refl
  where
    of : (b : Bool) → list_any (same_name x) xs ≡ b → Member x (if b then xs else xs ++ x ∷ [])
    of true e = found_there x xs e
    of false e = member_right x xs (x ∷ []) (inl refl)

join_all_keeps : (x : ArrayName) (ys xs : List ArrayName) → Member x xs → Member x (join_all same_name xs ys)
join_all_keeps x [] xs m = m
join_all_keeps x (y ∷ ys) xs m = join_all_keeps x ys (joined same_name xs y) (join_keeps x y xs m)

kept : (x : ArrayName) (ps : List Pair) (done : List ArrayName) → Member x done → Member x (named_from done ps)
kept x [] done h = h
kept x (p ∷ ps) done h = kept x ps (join_all same_name done (named p)) (join_all_keeps x (named p) done h)

pair_kept : (x y : ArrayName) (ps : List Pair) (done : List ArrayName) → asked ps x y ≡ true → Member x (named_from done ps) × Member y (named_from done ps)
pair_kept x y [] done h = absurd (cc)
pair_kept x y (p ∷ ps) done h = of (same_pair q p) refl h (pair_kept x y ps (join_all same_name done (named p)))
  where
    q : Pair
    q = record { atom = After x; array = y }

    of : (b : Bool) → same_pair q p ≡ b → (b || list_any (same_pair q) ps) ≡ true → (list_any (same_pair q) ps ≡ true → Member x (named_from (join_all same_name done (named p)) ps) × Member y (named_from (join_all same_name done (named p)) ps)) →
        Member x (named_from (join_all same_name done (named p)) ps) × Member y (named_from (join_all same_name done (named p)) ps)
    of true e k more = subst (λ (r : Pair). Member x (named_from (join_all same_name done (named r)) ps) × Member y (named_from (join_all same_name done (named r)) ps)) (same_pair_is q p e)
        (kept x ps (joined same_name (joined same_name done x) y) (join_keeps x y (joined same_name done x) (join_puts x done)), kept y ps (joined same_name (joined same_name done x) y) (join_puts y (joined same_name done x)))
    of false e k more = more k

pub covers : (n : ℕ) (ps : List Pair) (done : List ArrayName) → HasDeclared n done → Covers (needed ps n) (named_from done ps)
covers n ps done h x y is = of (list_any (same_pair (record { atom = After x; array = y })) ps) refl is
  where
    by_place : (x y : ArrayName) → earlier n x y ≡ true → Member x (named_from done ps) × Member y (named_from done ps)
    by_place (Global a) (Global b) e = let both = and_parts _ _ e in let k = ltb-true a b both.0 in let l = ltb-true b n both.1 in (kept (Global a) ps done (h a (omega arith)), kept (Global b) ps done (h b l))
    by_place (Global a) (Param b) e = absurd (cc)
    by_place (Param a) y e = absurd (cc)

    of : (t : Bool) → list_any (same_pair (record { atom = After x; array = y })) ps ≡ t → (t || earlier n x y) ≡ true → Member x (named_from done ps) × Member y (named_from done ps)
    of true e k = pair_kept x y ps done e
    of false e k = by_place x y k

pub order_of_all : (n : ℕ) (ps : List Pair) (names : List ArrayName) → Covers (needed ps n) names → OrderOn (needed ps n) (λ x. Member x names) → (N : ArrayName → ℕ) × ((x y : ArrayName) → needed ps n x y ≡ true → N x < N y)
order_of_all n ps names c order = (order.0, λ x y e. let in_it = c x y e in order.1 x y in_it.0 in_it.1 e)

-- Numbers that rise along all that must come first are a numbering, and those that settle do.
use Rattle.std.proofs.Common.{◌≡◌, ℕ, zero, suc, ◌+◌, ◌-◌, ◌<◌, ◌≤◌, Bool, true, false, ◌&&◌, ◌||◌, nat_lt, List, refl, ap, subst, arith}
use Rattle.std.proofs.lemmas.Bool.{and_parts, ltb-true}
use Rattle.std.proofs.lemmas.Bool.Decides.{nat_tests}
use Rattle.lucid_base.specs.declared.array.ArrayName.TheVariants.{Global}
use Rattle.lucid_constraints.proofs.CycleLemmas.{needed_from}
use Rattle.lucid_constraints.proofs.NumberingLemmas.{rises_from}
use Rattle.lucid_constraints.specs.Cycle.{HasNumbering, Needed, Rises}
use Rattle.lucid_constraints.specs.Means.{allow_all}
use Rattle.lucid_constraints.specs.Numbers.{lifted_along, lifted_to, number_of, rise, rise_to, settle}
use Rattle.lucid_constraints.specs.declared.pair.Pair.{Pair}

pub rise_to_next : (ns : List ℕ) (k : ℕ) → rise_to ns (k + 1) ≡ (rise_to ns k && nat_lt (number_of ns (Global k)) (number_of ns (Global (k + 1))))
rise_to_next ns k = let next : suc k ≡ k + 1 = omega arith in subst (λ (i : ℕ). rise_to ns i ≡ (rise_to ns k && nat_lt (number_of ns (Global k)) (number_of ns (Global i)))) next refl

rises_to : (ns : List ℕ) (k : ℕ) → rise_to ns k ≡ true → (a b : ℕ) → a < b → b ≤ k → number_of ns (Global a) < number_of ns (Global b)
rises_to ns zero e a b l m = absurd (omega (arith, l, m))
rises_to ns (suc k) e a b l m = of (λ c d. rises_to ns k (and_parts (rise_to ns k) (nat_lt (number_of ns (Global k)) (number_of ns (Global (suc k)))) e).0 c d) (nat_lt b (suc k)) refl
  where
    both : (rise_to ns k ≡ true) × (nat_lt (number_of ns (Global k)) (number_of ns (Global (suc k))) ≡ true)
    both = and_parts (rise_to ns k) (nat_lt (number_of ns (Global k)) (number_of ns (Global (suc k)))) e

    last : number_of ns (Global k) < number_of ns (Global (suc k))
    last = ltb-true (number_of ns (Global k)) (number_of ns (Global (suc k))) both.1

    below : (again : (c d : ℕ) → c < d → d ≤ k → number_of ns (Global c) < number_of ns (Global d)) (t : Bool) → nat_lt a k ≡ t → a < suc k → number_of ns (Global a) < number_of ns (Global (suc k))
    below again true f h = let less = again a k (ltb-true a k f) (omega arith) in omega (arith, less, last)
    below again false f h = let is : k ≡ a = grind (arith, nat_tests) in subst (λ (i : ℕ). number_of ns (Global i) < number_of ns (Global (suc k))) is last

    of : (again : (c d : ℕ) → c < d → d ≤ k → number_of ns (Global c) < number_of ns (Global d)) (t : Bool) → nat_lt b (suc k) ≡ t → number_of ns (Global a) < number_of ns (Global b)
    of again true f = let m = ltb-true b (suc k) f in again a b l (omega (arith, m))
    of again false f =
        let is : suc k ≡ b = grind (arith, nat_tests) in
        subst (λ (i : ℕ). number_of ns (Global a) < number_of ns (Global i)) is (below again (nat_lt a k) refl (omega (arith, l, is)))

numbers_rise : (ns : List ℕ) (ps : List Pair) (n : ℕ) → rise ns ps n ≡ true → HasNumbering (Needed n ps)
numbers_rise ns ps n e =
    let both = and_parts (allow_all (number_of ns) 0 ps) (rise_to ns (n - 1)) e in
    let up : Rises n (number_of ns) = λ a b l m. rises_to ns (n - 1) both.1 a b l (omega arith) in
    (number_of ns, λ x y h. rises_from (number_of ns) 0 n ps up both.0 x y (needed_from ps n x y h))

module _ (ns : List ℕ) (ps : List Pair) (n : ℕ) where
  pub settle_never : (rounds : ℕ) → rounds ≡ 0 → settle rounds ps n ns ≡ false
  unfolding settle
  settle_never zero e = refl
  settle_never (suc rounds) e = absurd (omega (arith, e))

  pub settle_now : (rounds : ℕ) → 0 < rounds → rise ns ps n ≡ true → settle rounds ps n ns ≡ true
  unfolding settle
  settle_now zero l e = absurd (omega (arith, l))
  settle_now (suc rounds) l e = rw e refl

  pub settle_later : (rounds : ℕ) → 0 < rounds → rise ns ps n ≡ false → settle rounds ps n ns ≡ settle (rounds - 1) ps n (lifted_to (n - 1) (lifted_along ns ps))
  unfolding settle
  settle_later zero l e = absurd (omega (arith, l))
  settle_later (suc rounds) l e = let less : rounds ≡ suc rounds - 1 = omega arith in rw e (ap (λ k. settle k ps n (lifted_to (n - 1) (lifted_along ns ps))) less)

pub settled_rises : (rounds : ℕ) (ps : List Pair) (n : ℕ) (ns : List ℕ) → settle rounds ps n ns ≡ true → HasNumbering (Needed n ps)
unfolding settle
settled_rises zero ps n ns e = absurd (cc)
settled_rises (suc rounds) ps n ns e = of (rise ns ps n) refl e (settled_rises rounds ps n (lifted_to (n - 1) (lifted_along ns ps)))
  where
    of : (t : Bool) → rise ns ps n ≡ t → (t || settle rounds ps n (lifted_to (n - 1) (lifted_along ns ps))) ≡ true →
        (settle rounds ps n (lifted_to (n - 1) (lifted_along ns ps)) ≡ true → HasNumbering (Needed n ps)) → HasNumbering (Needed n ps)
    of true f g again = numbers_rise ns ps n f
    of false f g again = again g

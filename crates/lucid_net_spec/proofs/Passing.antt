-- A test that all of a list pass, or none, as one is inserted or removed.
use Rattle.std.proofs.Common.{◌≡◌, List, [], ◌∷◌, Bool, true, false, if◌then◌else◌, ◌&&◌, ◌||◌, refl, ◌∙◌, ap}
use Rattle.std.specs.List.{list_all, list_any}
use Rattle.lucid_queue.specs.Order.{has_place, is_before}
use Rattle.lucid_queue.specs.Waiting.{put_in, without_first}
use Rattle.lucid_queue.specs.declared.pending.Pending.{Pending}

pub both : (a b : Bool) → a ≡ true → b ≡ true → (a && b) ≡ true
both a b here there = ap (λ (c : Bool). c && b) here ∙ there

pub neither : (a b : Bool) → a ≡ false → b ≡ false → (a || b) ≡ false
neither a b here there = ap (λ (c : Bool). c || b) here ∙ there

pub not_first : (a b : Bool) → (a || b) ≡ false → a ≡ false
not_first true b is = is
not_first false b is = refl

pub not_second : (a b : Bool) → (a || b) ≡ false → b ≡ false
not_second true b is = cc
not_second false b is = is

pub false_true : false ≡ true → ⊥
false_true e = cc

pub first_of : (a b : Bool) → (a && b) ≡ true → a ≡ true
first_of true b is = refl
first_of false b is = is

pub second_of : (a b : Bool) → (a && b) ≡ true → b ≡ true
second_of true b is = is
second_of false b is = absurd (false_true is)

pub or_left : (a b : Bool) → a ≡ true → (a || b) ≡ true
or_left a b here = ap (λ (c : Bool). c || b) here

pub put_passes : (test : Pending → Bool) (p : Pending) (ps : List Pending) → test p ≡ true → list_all test ps ≡ true → list_all test (put_in is_before p ps) ≡ true
put_passes test p [] here all = both (test p) true here refl
put_passes test p (q ∷ qs) here all = put (is_before p q) (put_passes test p qs here (second_of (test q) (list_all test qs) all))
  where
    put : (b : Bool) → list_all test (put_in is_before p qs) ≡ true → list_all test (if b then p ∷ q ∷ qs else q ∷ put_in is_before p qs) ≡ true
    put true rest = both (test p) (list_all test (q ∷ qs)) here all
    put false rest = both (test q) (list_all test (put_in is_before p qs)) (first_of (test q) (list_all test qs) all) rest

pub without_passes : (test may : Pending → Bool) (ps : List Pending) → list_all test ps ≡ true → list_all test (without_first may ps) ≡ true
without_passes test may [] all = refl
without_passes test may (p ∷ ps) all = at (may p) (without_passes test may ps (second_of (test p) (list_all test ps) all))
  where
    at : (b : Bool) → list_all test (without_first may ps) ≡ true → list_all test (if b then ps else p ∷ without_first may ps) ≡ true
    at true rest = second_of (test p) (list_all test ps) all
    at false rest = both (test p) (list_all test (without_first may ps)) (first_of (test p) (list_all test ps) all) rest

pub weaker : (one two : Pending → Bool) → ((p : Pending) → one p ≡ true → two p ≡ true) → (ps : List Pending) → list_all one ps ≡ true → list_all two ps ≡ true
weaker one two turned [] all = refl
weaker one two turned (p ∷ ps) all =
    both (two p) (list_all two ps) (turned p (first_of (one p) (list_all one ps) all)) (weaker one two turned ps (second_of (one p) (list_all one ps) all))

pub unlike : (test : Pending → Bool) (p : Pending) → ((q : Pending) → test q ≡ true → has_place p q ≡ false) → (ps : List Pending) → list_all test ps ≡ true → list_any (has_place p) ps ≡ false
unlike test p apart [] all = refl
unlike test p apart (q ∷ qs) all =
    neither (has_place p q) (list_any (has_place p) qs) (apart q (first_of (test q) (list_all test qs) all)) (unlike test p apart qs (second_of (test q) (list_all test qs) all))

-- The queue stays in order.
use Rattle.std.proofs.Common.{◌≡◌, ℕ, zero, suc, List, [], ◌∷◌, Option, None, Some, Bool, true, false, if◌then◌else◌, cond, not, ◌&&◌, nat_eq, nat_lt, refl, sym, ◌∙◌, ap, subst, arith}
use Rattle.std.specs.Cmp.{IsStrictWeakOrder}
use Rattle.std.specs.List.{AllByRecursion, find}
use Rattle.std.specs.Ordering.{is_lt, nat_cmp, ordering_then}
use Rattle.std.specs.declared.cmp.Ordering.{Ordering}
use Rattle.std.proofs.lemmas.Bool.Decides.{nat_tests}
use Rattle.std.proofs.lemmas.Cmp.{tied_itself}
use Rattle.std.proofs.lemmas.List.Elements.{All-from_recursion}
use Rattle.std.proofs.lemmas.List.Sorted.{ranks_by}
use Rattle.lucid_net_spec.specs.Laws.{IsInOrder, StaysInOrder, EntersLeast}
use Rattle.lucid_net_spec.specs.Log.{State, enters, file_events, made, put_all, run_at, ticks, turns}
use Rattle.lucid_net_spec.specs.Ways.{Network}
use Rattle.lucid_queue.specs.Order.{is_before, key_cmp, key_total, pending_total}
use Rattle.lucid_queue.specs.Waiting.{put_in, without_first, is_ready}
use Rattle.lucid_queue.specs.declared.pending.Pending.{Pending}

-- none of the list precedes p
abbrev pub NoneBefore : Pending → List Pending → Type 0
NoneBefore p ps = AllByRecursion (λ q. is_before q p ≡ false) ps

pub is_strict_order : IsStrictWeakOrder is_before
is_strict_order = ranks_by pending_total (λ p. p)

pub if_true : {A : Type 0} (b : Bool) (x y : A) → b ≡ true → (if b then x else y) ≡ x
if_true b x y is = ap (λ (b : Bool). if b then x else y) is

pub if_false : {A : Type 0} (b : Bool) (x y : A) → b ≡ false → (if b then x else y) ≡ y
if_false b x y is = ap (λ (b : Bool). if b then x else y) is

pub either : (P : Type 0) (b : Bool) → (b ≡ true → P) → (b ≡ false → P) → P
either P true here there = here refl
either P false here there = there refl

false_true : false ≡ true → ⊥
false_true e = cc

-- x before y, and z not before y: then z is not before x
through : (x y z : Pending) → is_before x y ≡ true → is_before z y ≡ false → is_before z x ≡ false
through x y z before not_before = is_strict_order.chain z y x not_before (is_strict_order.one_way x y before)

none_through : (x y : Pending) (zs : List Pending) → is_before x y ≡ true → NoneBefore y zs → NoneBefore x zs
none_through x y [] before none = tt
none_through x y (z ∷ zs) before none = (through x y z before none.0, none_through x y zs before none.1)

none_put : (x y : Pending) (ys : List Pending) → is_before x y ≡ false → NoneBefore y ys → NoneBefore y (put_in is_before x ys)
none_put x y [] not_before none = (not_before, tt)
none_put x y (z ∷ zs) not_before none = put (is_before x z) (none_put x y zs not_before none.1)
  where
    put : (b : Bool) → NoneBefore y (put_in is_before x zs) → NoneBefore y (if b then x ∷ z ∷ zs else z ∷ put_in is_before x zs)
    put true rest = (not_before, none)
    put false rest = (none.0, rest)

pub put_stays : (x : Pending) (ys : List Pending) → IsInOrder ys → IsInOrder (put_in is_before x ys)
put_stays x [] ordered = (tt, tt)
put_stays x (y ∷ ys) ordered = either _ (is_before x y) early (late (put_stays x ys ordered.1))
  where
    early : is_before x y ≡ true → IsInOrder (put_in is_before x (y ∷ ys))
    early before = subst IsInOrder (sym (if_true (is_before x y) _ _ before)) ((is_strict_order.one_way x y before, none_through x y ys before ordered.0), ordered)

    late : IsInOrder (put_in is_before x ys) → is_before x y ≡ false → IsInOrder (put_in is_before x (y ∷ ys))
    late tail not_before = subst IsInOrder (sym (if_false (is_before x y) _ _ not_before)) (none_put x y ys not_before ordered.0, tail)

pub all_stay : (xs ys : List Pending) → IsInOrder ys → IsInOrder (put_all xs ys)
all_stay [] ys ordered = ordered
all_stay (x ∷ xs) ys ordered = all_stay xs (put_in is_before x ys) (put_stays x ys ordered)

none_without : (may : Pending → Bool) (p : Pending) (ps : List Pending) → NoneBefore p ps → NoneBefore p (without_first may ps)
none_without may p [] none = tt
none_without may p (q ∷ qs) none = at (may q) (none_without may p qs none.1)
  where
    at : (b : Bool) → NoneBefore p (without_first may qs) → NoneBefore p (if b then qs else q ∷ without_first may qs)
    at true rest = none.1
    at false rest = (none.0, rest)

pub without_stays : (may : Pending → Bool) (ps : List Pending) → IsInOrder ps → IsInOrder (without_first may ps)
without_stays may [] ordered = tt
without_stays may (p ∷ ps) ordered = at (may p) (none_without may p ps ordered.0) (without_stays may ps ordered.1)
  where
    at : (b : Bool) → NoneBefore p (without_first may ps) → IsInOrder (without_first may ps) → IsInOrder (if b then ps else p ∷ without_first may ps)
    at true none rest = ordered.1
    at false none rest = (none, rest)

enters_stays : (net : Network) (tick switch : ℕ) (now : State) (o : Option Pending) → IsInOrder now.pending → IsInOrder (enters net tick switch now o).pending
enters_stays net tick switch now None ordered = ordered
enters_stays net tick switch now (Some p) ordered = all_stay (made net (run_at net tick switch now p.event)) (without_first (is_ready switch tick) now.pending) (without_stays (is_ready switch tick) now.pending ordered)

turns_stay : (net : Network) (tick switch : ℕ) (now : State) → IsInOrder now.pending → IsInOrder (turns net tick switch now).pending
turns_stay net tick zero now ordered = ordered
turns_stay net tick (suc switch) now ordered = enters_stays net tick switch (turns net tick switch now) (find (is_ready switch tick) (turns net tick switch now).pending) (turns_stay net tick switch now ordered)

ticks_stay : (net : Network) (tick : ℕ) → IsInOrder (ticks net tick).pending
ticks_stay net zero = all_stay (file_events 0 net.scene.events) [] tt
ticks_stay net (suc tick) = turns_stay net tick net.scene.switches (ticks net tick) (ticks_stay net tick)

pub stays_in_order : (net : Network) → StaysInOrder net
stays_in_order net tick switch = turns_stay net tick switch (ticks net tick) (ticks_stay net tick)

-- q, if it is ready, has no lesser key than p
abbrev NotLess : ℕ → ℕ → Pending → Pending → Type 0
NotLess s t p q = is_ready s t q ≡ true → is_lt (key_cmp q.key p.key) ≡ false

same_switch : (s t a b c d : ℕ) (o : Ordering) → (nat_eq a s && not (nat_lt t b)) ≡ true → (nat_eq c s && not (nat_lt t d)) ≡ true → is_lt (ordering_then (nat_cmp c a) o) ≡ false → is_lt o ≡ false
same_switch s t a b c d o one two less = grind (arith, nat_tests)

none_less : (s t : ℕ) (p : Pending) (ps : List Pending) → is_ready s t p ≡ true → NoneBefore p ps → AllByRecursion (NotLess s t p) ps
none_less s t p [] ready none = tt
none_less s t p (q ∷ qs) ready none = (λ is. same_switch s t p.switch p.key.ready q.switch q.key.ready (key_cmp q.key p.key) ready is none.0, none_less s t p qs ready none.1)

inside : (p q : Pending) → Some p ≡ Some q → p ≡ q
inside p q e = cc

first_least : (s t : ℕ) (ps : List Pending) (p : Pending) → IsInOrder ps → find (is_ready s t) ps ≡ Some p → AllByRecursion (NotLess s t p) ps
first_least s t [] p ordered is = tt
first_least s t (q ∷ qs) p ordered is = at (is_ready s t q) refl is (first_least s t qs p ordered.1)
  where
    at : (b : Bool) → is_ready s t q ≡ b → cond b (Some q) (find (is_ready s t) qs) ≡ Some p → (find (is_ready s t) qs ≡ Some p → AllByRecursion (NotLess s t p) qs) → AllByRecursion (NotLess s t p) (q ∷ qs)
    at true here is tail = subst (λ (x : Pending). AllByRecursion (NotLess s t x) (q ∷ qs)) (inside q p is) (λ _. ap is_lt (tied_itself key_total q.key), none_less s t q qs here ordered.0)
    at false here is tail = (λ ready. absurd (false_true (sym here ∙ ready)), tail is)

pub enters_least : (net : Network) → EntersLeast net
enters_least net tick switch p is =
    let pending = (turns net tick switch (ticks net tick)).pending in
    All-from_recursion (NotLess switch tick p) pending (first_least switch tick pending p (stays_in_order net tick switch) is)

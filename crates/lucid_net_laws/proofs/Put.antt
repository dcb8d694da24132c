-- An event that may not enter can be queued before the entering one is taken out, or after.
use Rattle.std.proofs.Common.{◌≡◌, List, [], ◌∷◌, ◌++◌, Option, None, Some, Bool, true, false, if◌then◌else◌, cond, refl, sym, ◌∙◌, ap}
use Rattle.std.specs.List.{AllByRecursion, find}
use Rattle.lucid_net_spec.proofs.InOrder.{NoneBefore, either, if_false, if_true, is_strict_order, put_stays}
use Rattle.lucid_net_spec.specs.Laws.{IsInOrder}
use Rattle.lucid_net_spec.specs.Log.{put_all}
use Rattle.lucid_queue.specs.Order.{is_before}
use Rattle.lucid_queue.specs.Waiting.{put_in, without_first}
use Rattle.lucid_queue.specs.declared.pending.Pending.{Pending}

-- x before each of the list
abbrev AllAfter : Pending → List Pending → Type 0
AllAfter x ps = AllByRecursion (λ y. is_before x y ≡ true) ps

-- none of the list passes
abbrev pub NoneOf : (Pending → Bool) → List Pending → Type 0
NoneOf may ps = AllByRecursion (λ p. may p ≡ false) ps

put_first : (x : Pending) (ys : List Pending) → AllAfter x ys → put_in is_before x ys ≡ x ∷ ys
put_first x [] after = refl
put_first x (y ∷ ys) after = if_true (is_before x y) _ _ after.0

false_true : false ≡ true → ⊥
false_true e = cc

through : (x y z : Pending) → is_before x y ≡ true → is_before z y ≡ false → is_before x z ≡ true
through x y z lt ge = either _ (is_before x z) (λ e. e) (λ e. absurd (false_true (sym (is_strict_order.chain x z y e ge) ∙ lt)))

after_more : (x y : Pending) (zs : List Pending) → is_before x y ≡ true → NoneBefore y zs → AllAfter x zs
after_more x y [] lt none = tt
after_more x y (z ∷ zs) lt none = (through x y z lt none.0, after_more x y zs lt none.1)

after_without : (may : Pending → Bool) (x : Pending) (ys : List Pending) → AllAfter x ys → AllAfter x (without_first may ys)
after_without may x [] after = tt
after_without may x (y ∷ ys) after = at (may y) (after_without may x ys after.1)
  where
    at : (b : Bool) → AllAfter x (without_first may ys) → AllAfter x (if b then ys else y ∷ without_first may ys)
    at true rest = after.1
    at false rest = (after.0, rest)

find_put : (may : Pending → Bool) (x : Pending) (ys : List Pending) → may x ≡ false → find may (put_in is_before x ys) ≡ find may ys
find_put may x [] not = ap (λ (b : Bool). cond b (Some x) None) not
find_put may x (y ∷ ys) not = at (is_before x y) (find_put may x ys not)
  where
    at : (b : Bool) → find may (put_in is_before x ys) ≡ find may ys → find may (if b then x ∷ y ∷ ys else y ∷ put_in is_before x ys) ≡ find may (y ∷ ys)
    at true rest = ap (λ (b : Bool). cond b (Some x) (find may (y ∷ ys))) not
    at false rest = ap (λ (o : Option Pending). cond (may y) (Some y) o) rest

without_put : (may : Pending → Bool) (x : Pending) (ys : List Pending) → IsInOrder ys → may x ≡ false →
    without_first may (put_in is_before x ys) ≡ put_in is_before x (without_first may ys)
without_put may x [] ordered not = if_false (may x) _ _ not
without_put may x (y ∷ ys) ordered not = either _ (is_before x y) early (late (without_put may x ys ordered.1 not))
  where
    early : is_before x y ≡ true → without_first may (put_in is_before x (y ∷ ys)) ≡ put_in is_before x (without_first may (y ∷ ys))
    early lt =
        ap (without_first may) (if_true (is_before x y) (x ∷ y ∷ ys) (y ∷ put_in is_before x ys) lt)
        ∙ if_false (may x) (y ∷ ys) (x ∷ without_first may (y ∷ ys)) not
        ∙ sym (put_first x (without_first may (y ∷ ys)) (after_without may x (y ∷ ys) (lt, after_more x y ys lt ordered.0)))

    behind : (b : Bool) → is_before x y ≡ false → (if b then put_in is_before x ys else y ∷ put_in is_before x (without_first may ys)) ≡ put_in is_before x (if b then ys else y ∷ without_first may ys)
    behind true ge = refl
    behind false ge = sym (if_false (is_before x y) (x ∷ y ∷ without_first may ys) (y ∷ put_in is_before x (without_first may ys)) ge)

    late : without_first may (put_in is_before x ys) ≡ put_in is_before x (without_first may ys) → is_before x y ≡ false →
        without_first may (put_in is_before x (y ∷ ys)) ≡ put_in is_before x (without_first may (y ∷ ys))
    late tail ge =
        ap (without_first may) (if_false (is_before x y) (x ∷ y ∷ ys) (y ∷ put_in is_before x ys) ge)
        ∙ ap (λ (l : List Pending). if may y then put_in is_before x ys else y ∷ l) tail
        ∙ behind (may y) ge

pub put_all-append : (xs ys ps : List Pending) → put_all (xs ++ ys) ps ≡ put_all ys (put_all xs ps)
put_all-append [] ys ps = refl
put_all-append (x ∷ xs) ys ps = put_all-append xs ys (put_in is_before x ps)

pub find_all : (may : Pending → Bool) (xs ps : List Pending) → NoneOf may xs → find may (put_all xs ps) ≡ find may ps
find_all may [] ps none = refl
find_all may (x ∷ xs) ps none = find_all may xs (put_in is_before x ps) none.1 ∙ find_put may x ps none.0

pub without_all : (may : Pending → Bool) (xs ps : List Pending) → IsInOrder ps → NoneOf may xs → without_first may (put_all xs ps) ≡ put_all xs (without_first may ps)
without_all may [] ps ordered none = refl
without_all may (x ∷ xs) ps ordered none =
    without_all may xs (put_in is_before x ps) (put_stays x ps ordered) none.1 ∙ ap (put_all xs) (without_put may x ps ordered none.0)

pub unfound : (may : Pending → Bool) (ps : List Pending) → find may ps ≡ None → without_first may ps ≡ ps
unfound may [] is = refl
unfound may (p ∷ ps) is = at (may p) is (unfound may ps)
  where
    at : (b : Bool) → cond b (Some p) (find may ps) ≡ None → (find may ps ≡ None → without_first may ps ≡ ps) → (if b then ps else p ∷ without_first may ps) ≡ p ∷ ps
    at true is tail = cc
    at false is tail = ap (λ (l : List Pending). p ∷ l) (tail is)

-- Guards that begin alike, the literals before each literal of a guard, and the marks of fields that are tested elsewhere.
use Rattle.std.proofs.Common.{◌≡◌, ◌≢◌, ℕ, zero, suc, ◌+◌, ◌-◌, ◌<◌, ◌≤◌, List, [], ◌∷◌, ◌++◌, Bool, true, false, not, ◌&&◌, ◌||◌, Option, None, Some, if◌then◌else◌, length, take, drop, replicate, slice_get, slice_index_or, slice_set, nat_eq, refl, sym, ap, ap₂, subst, ◌∙◌, ⊎_elim, arith}
use Rattle.std.specs.List.{list_any}
use Rattle.std.specs.Option.{option_map_or}
use Rattle.std.proofs.lemmas.Bool.{cases_lt, and_parts, and_from, or_cases, or_left, or_right, eq-eqb, ne_eqb, eqb-true, cases_eq, true≢false}
use Rattle.std.proofs.lemmas.List.{get_or-set_same, get_or-set_other, length-set, length-replicate}
use Rattle.std.proofs.lemmas.List.Folds.{list_any-append, list_all-append}
use Rattle.lucid_code.specs.declared.op.Literal.{Literal}
use Rattle.lucid_code.specs.declared.op.Op.{Op}
use Rattle.lucid_pass_spec.specs.Direct.{tests, covers}
use Rattle.lucid_pass_spec.specs.Looks.{same_literal, includes, only_writer}
use Rattle.lucid_pass_spec.proofs.Replacing.{one_literal}
use Rattle.lucid_pass_rewrites.specs.Covering.{same_at, Alike, is_under, Nested, NestedBefore, mark_each, Uncovered}

-- ---- the front of a list

pub at_some : {A : Type 0} (xs : List A) (i : ℕ) (x : A) → i < length xs → x ≡ slice_index_or xs i x → slice_get xs i ≡ Some x
at_some [] i x h e = absurd (omega arith)
at_some (y ∷ xs) zero x h e = ap Some (sym e)
at_some (y ∷ xs) (suc i) x h e = at_some xs i x (omega arith) e

none_taken : {A : Type 0} (xs : List A) → take 0 xs ≡ []
none_taken [] = refl
none_taken (x ∷ xs) = refl

pub take_less : {A : Type 0} (xs : List A) (i n : ℕ) → i ≤ n → take i (take n xs) ≡ take i xs
take_less xs zero n h = none_taken (take n xs) ∙ sym (none_taken xs)
take_less xs (suc i) zero h = absurd (omega arith)
take_less [] (suc i) (suc n) h = refl
take_less (x ∷ xs) (suc i) (suc n) h = ap (λ l. x ∷ l) (take_less xs i n (omega arith))

get_taken : {A : Type 0} (xs : List A) (i n : ℕ) → i < n → slice_get (take n xs) i ≡ slice_get xs i
get_taken xs i zero h = absurd (omega arith)
get_taken [] i (suc n) h = refl
get_taken (x ∷ xs) zero (suc n) h = refl
get_taken (x ∷ xs) (suc i) (suc n) h = get_taken xs i n (omega arith)

pub take_one_more : {A : Type 0} (xs : List A) (n : ℕ) (x : A) → slice_get xs n ≡ Some x → take (n + 1) xs ≡ take n xs ++ x ∷ []
take_one_more {A = A} xs n x e = let next : n + 1 ≡ suc n = omega arith in ap (λ m. take m xs) next ∙ by xs n e
  where
    by : (xs : List A) (n : ℕ) → slice_get xs n ≡ Some x → take (suc n) xs ≡ take n xs ++ x ∷ []
    by [] n e = absurd (cc)
    by (y ∷ xs) zero e = (let s : y ≡ x = cc in ap (λ z. z ∷ []) s)
    by (y ∷ xs) (suc n) e = ap (λ l. y ∷ l) (by xs n e)

pub all_taken : {A : Type 0} (xs : List A) → take (length xs) xs ≡ xs
all_taken [] = refl
all_taken (x ∷ xs) = ap (λ l. x ∷ l) (all_taken xs)

nil_taken : {A : Type 0} (n : ℕ) → take {A = A} n [] ≡ []
nil_taken zero = refl
nil_taken (suc n) = refl

-- A slice from n on is the rest after n.
pub take_rest : {A : Type 0} (xs : List A) (n : ℕ) → take (length xs - n) (drop n xs) ≡ drop n xs
take_rest {A = A} [] zero = nil_taken {A = A} (length {A = A} [] - zero)
take_rest {A = A} [] (suc n) = nil_taken {A = A} (length {A = A} [] - suc n)
take_rest (x ∷ xs) zero = let whole : length (x ∷ xs) - zero ≡ length (x ∷ xs) = omega arith in ap (λ (m : ℕ). take m (x ∷ xs)) whole ∙ all_taken (x ∷ xs)
take_rest (x ∷ xs) (suc n) = let next : length (x ∷ xs) - suc n ≡ length xs - n = omega arith in ap (λ (m : ℕ). take m (drop n xs)) next ∙ take_rest xs n

split_at : {A : Type 0} (xs : List A) (n : ℕ) → take n xs ++ drop n xs ≡ xs
split_at [] zero = refl
split_at [] (suc n) = refl
split_at (x ∷ xs) zero = refl
split_at (x ∷ xs) (suc n) = ap (λ l. x ∷ l) (split_at xs n)

-- ---- guards that begin alike

pub alike_none : (a b : List Literal) → Alike a b 0
alike_none a b = record { first = omega arith; second = omega arith; same = none_taken a ∙ sym (none_taken b) }

by_none : {A : Type 0} (f : A → Bool) (x : Option A) → ((a : A) → f a ≡ false) → option_map_or f x false ≡ false
by_none f None h = refl
by_none f (Some a) h = h a

record More (a b : List Literal) (n : ℕ) : Type 0 where
  first : n < length a
  second : n < length b
  same : take (suc n) a ≡ take (suc n) b

more : (a b : List Literal) (n : ℕ) → same_at a b n ≡ true → take n a ≡ take n b → More a b n
more [] b n s e = absurd (true≢false (sym s))
more (x ∷ a) [] zero s e = absurd (true≢false (sym s))
more (x ∷ a) [] (suc n) s e = absurd (true≢false (sym s ∙ by_none (λ (l : Literal). false) (slice_get a n) (λ l. refl)))
more (x ∷ a) (y ∷ b) zero s e = record { first = omega arith; second = omega arith; same = ap₂ (λ (z : Literal) (l : List Literal). z ∷ l) (one_literal x y s) (none_taken a ∙ sym (none_taken b)) }
more (x ∷ a) (y ∷ b) (suc n) s e =
    let head : x ≡ y = cc in
    let rest : take n a ≡ take n b = cc in
    let r = more a b n s rest in
    record { first = omega (arith, r.first); second = omega (arith, r.second); same = ap₂ (λ (z : Literal) (l : List Literal). z ∷ l) head r.same }

pub alike_more : (a b : List Literal) (n : ℕ) → same_at a b n ≡ true → Alike a b n → Alike a b (n + 1)
alike_more a b n s h =
    let next : suc n ≡ n + 1 = omega arith in
    let r = more a b n s h.same in
    record { first = omega (arith, r.first); second = omega (arith, r.second); same = subst (λ m. take m a ≡ take m b) next r.same }

pub alike_less : (a b : List Literal) (i n : ℕ) → i ≤ n → Alike a b n → take i a ≡ take i b
alike_less a b i n h s = sym (take_less a i n h) ∙ ap (take i) s.same ∙ take_less b i n h

-- ---- the literals before a literal

pub nested_none : (ops : List Op) (guard : List Literal) → Nested ops guard 0
nested_none ops guard = record { within = omega arith; told = λ i l h e. absurd (omega (arith, h)) }

pub nested_shared : (ops : List Op) (a b : List Literal) (n m : ℕ) → Alike a b n → n ≤ m → Nested ops a m → Nested ops b n
nested_shared ops a b n m alike h nested = record {
  within = alike.second;
  told = λ i l lt e.
      let there : slice_get a i ≡ Some l = sym (get_taken a i n lt) ∙ ap (λ (g : List Literal). slice_get g i) alike.same ∙ get_taken b i n lt ∙ e in
      subst (λ (g : List Literal). is_under ops g l.field ≡ true) (alike_less a b i n (omega (arith, lt)) alike) (nested.told i l (omega (arith, lt, h)) there);
}

pub nested_more : (ops : List Op) (guard : List Literal) (n : ℕ) (l : Literal) → n < length guard → slice_get guard n ≡ Some l → is_under ops (take n guard) l.field ≡ true → Nested ops guard n → Nested ops guard (n + 1)
nested_more ops guard n l h e under nested = record {
  within = omega (arith, h);
  told = λ i k lt is. ⊎_elim
      (λ before. nested.told i k before is)
      (λ here.
      let same : i ≡ n = omega (arith, lt, here) in
      let one : Some l ≡ Some k = sym e ∙ ap (slice_get guard) (sym same) ∙ is in
      let lk : l ≡ k = cc in
      ap₂ (λ (m : ℕ) (x : Literal). is_under ops (take m guard) x.field) same (sym lk) ∙ under)
      (cases_lt i n);
}

any_more : (f : Literal → Bool) (guard : List Literal) (i : ℕ) → list_any f (take i guard) ≡ true → list_any f guard ≡ true
any_more f guard zero h = absurd (true≢false (sym h ∙ ap (list_any f) (none_taken guard)))
any_more f [] (suc i) h = h
any_more f (x ∷ guard) (suc i) h = ⊎_elim (λ e. or_left (f x) (list_any f guard) e) (λ e. or_right (f x) (list_any f guard) (any_more f guard i e)) (or_cases (f x) (list_any f (take i guard)) h)

includes_more : (guard : List Literal) (i : ℕ) (ls : List Literal) → includes (take i guard) ls ≡ true → includes guard ls ≡ true
includes_more guard i [] h = refl
includes_more guard i (l ∷ ls) h =
    let p = and_parts (list_any (same_literal l) (take i guard)) (includes (take i guard) ls) h in
    and_from (list_any (same_literal l) guard) (includes guard ls) (any_more (same_literal l) guard i p.0) (includes_more guard i ls p.1)

under_more : (ops : List Op) (guard : List Literal) (i k : ℕ) → is_under ops (take i guard) k ≡ true → is_under ops guard k ≡ true
under_more ops guard i k h = by (only_writer ops k) h
  where
    by : (x : Option Op) → option_map_or (λ (w : Op). includes (take i guard) w.guard) x true ≡ true → option_map_or (λ (w : Op). includes guard w.guard) x true ≡ true
    by None h = refl
    by (Some w) h = includes_more guard i w.guard h

-- ---- marks of fields

pub each_long : (ops : List Op) (guard ls : List Literal) (marks : List Bool) → length (mark_each ops guard ls marks) ≡ length marks
each_long ops guard [] marks = refl
each_long ops guard (l ∷ ls) marks = each_long ops guard ls (if is_under ops guard l.field then marks else slice_set marks l.field true) ∙ by (is_under ops guard l.field)
  where
    by : (b : Bool) → length (if b then marks else slice_set marks l.field true) ≡ length marks
    by true = refl
    by false = length-set marks l.field true

regroup : (a e n m : Bool) → ((a && n) || ((e && n) || m)) ≡ (((e || a) && n) || m)
regroup true true true m = refl
regroup true true false m = refl
regroup true false true m = refl
regroup true false false m = refl
regroup false true true m = refl
regroup false true false m = refl
regroup false false n m = refl

one_mark : (ops : List Op) (guard : List Literal) (j c : ℕ) (marks : List Bool) → c < length marks
    → slice_index_or (if is_under ops guard j then marks else slice_set marks j true) c false ≡ ((nat_eq j c && not (is_under ops guard c)) || slice_index_or marks c false)
one_mark ops guard j c marks h = ⊎_elim
    (λ e. same (is_under ops guard j) (sym e) ∙ ap (λ (b : Bool). (b && not (is_under ops guard j)) || slice_index_or marks j false) (sym (eq-eqb j j refl)) ∙ ap (λ k. (nat_eq j k && not (is_under ops guard k)) || slice_index_or marks k false) e)
    (λ n. other (is_under ops guard j) n ∙ ap (λ (b : Bool). (b && not (is_under ops guard c)) || slice_index_or marks c false) (sym (ne_eqb j c n)))
    (cases_eq j c)
  where
    same : (b : Bool) → c ≡ j → slice_index_or (if b then marks else slice_set marks j true) c false ≡ ((true && not b) || slice_index_or marks j false)
    same true e = ap (λ k. slice_index_or marks k false) e
    same false e = ap (λ k. slice_index_or (slice_set marks j true) k false) e ∙ get_or-set_same marks j true false (subst (λ k. k < length marks) e h)

    other : (b : Bool) → j ≢ c → slice_index_or (if b then marks else slice_set marks j true) c false ≡ slice_index_or marks c false
    other true n = refl
    other false n = get_or-set_other marks j c true false (λ e. n (sym e))

each_at : (ops : List Op) (guard ls : List Literal) (marks : List Bool) (c : ℕ) → c < length marks
    → slice_index_or (mark_each ops guard ls marks) c false ≡ ((list_any (λ (l : Literal). nat_eq l.field c) ls && not (is_under ops guard c)) || slice_index_or marks c false)
each_at ops guard [] marks c h = refl
each_at ops guard (l ∷ ls) marks c h =
    let next = if is_under ops guard l.field then marks else slice_set marks l.field true in
    each_at ops guard ls next c (subst (λ n. c < n) (sym (each_long ops guard (l ∷ []) marks)) h)
    ∙ ap (λ (b : Bool). (list_any (λ (k : Literal). nat_eq k.field c) ls && not (is_under ops guard c)) || b) (one_mark ops guard l.field c marks h)
    ∙ regroup (list_any (λ (k : Literal). nat_eq k.field c) ls) (nat_eq l.field c) (not (is_under ops guard c)) (slice_index_or marks c false)

-- ---- one operation more

record HoldsBefore (f : Literal → Bool) (guard : List Literal) (n : ℕ) : Type 0 where
  at : ℕ
  literal : Literal
  below : at < n
  is : slice_get guard at ≡ Some literal
  passes : f literal ≡ true

found : (f : Literal → Bool) (guard : List Literal) (n : ℕ) → list_any f (take n guard) ≡ true → HoldsBefore f guard n
found f guard zero h = absurd (true≢false (sym h ∙ ap (list_any f) (none_taken guard)))
found f [] (suc n) h = absurd (true≢false (sym h))
found f (x ∷ guard) (suc n) h = ⊎_elim
    (λ e. record { at = 0; literal = x; below = omega arith; is = refl; passes = e })
    (λ e. let r = found f guard n e in record { at = suc r.at; literal = r.literal; below = omega (arith, r.below); is = r.is; passes = r.passes })
    (or_cases (f x) (list_any f (take n guard)) h)

by_false : (b : Bool) → (b ≡ true → ⊥) → b ≡ false
by_false true f = absurd (f refl)
by_false false f = refl

-- The literals whose writers' guards are known to precede them don't matter.
only_later : (ops : List Op) (guard : List Literal) (n c : ℕ) → Nested ops guard n → (b : Bool) → is_under ops guard c ≡ b
    → (list_any (λ (l : Literal). nat_eq l.field c) (drop n guard) && not b) ≡ (list_any (λ (l : Literal). nat_eq l.field c) guard && not b)
only_later ops guard n c nested true e = none (list_any (λ (l : Literal). nat_eq l.field c) (drop n guard)) ∙ sym (none (list_any (λ (l : Literal). nat_eq l.field c) guard))
  where
    none : (b : Bool) → (b && false) ≡ false
    none true = refl
    none false = refl
only_later ops guard n c nested false e = ap (λ (b : Bool). b && true) (sym whole)
  where
    f : Literal → Bool
    f = λ l. nat_eq l.field c

    early : list_any f (take n guard) ≡ false
    early = by_false (list_any f (take n guard)) (λ t.
        let p = found f guard n t in
        let same : p.literal.field ≡ c = eqb-true p.literal.field c p.passes in
        let under = subst (λ k. is_under ops (take p.at guard) k ≡ true) same (nested.told p.at p.literal p.below p.is) in
        true≢false (sym (under_more ops guard p.at c under) ∙ e))

    whole : list_any f guard ≡ list_any f (drop n guard)
    whole = ap (list_any f) (sym (split_at guard n)) ∙ list_any-append f (take n guard) (drop n guard) ∙ ap (λ b. b || list_any f (drop n guard)) early

joined : (t u c : Bool) → ((t && not u) || not c) ≡ not (c && ((not t || u) && true))
joined true true true = refl
joined true true false = refl
joined true false true = refl
joined true false false = refl
joined false true true = refl
joined false true false = refl
joined false false true = refl
joined false false false = refl

pub uncovered_none : (ops : List Op) (fields : ℕ) → Uncovered ops fields 0 (replicate fields false)
uncovered_none ops fields = record {
  long = length-replicate fields false;
  told = λ c w h e. none fields c ∙ ap (λ (l : List Op). not (covers l c w.guard)) (sym (none_taken ops));
}
  where
    none : (n k : ℕ) → slice_index_or (replicate n false) k false ≡ false
    none zero k = refl
    none (suc n) zero = refl
    none (suc n) (suc k) = none n k

pub uncovered_more : (ops : List Op) (fields n nested : ℕ) (o : Op) (marks : List Bool) → slice_get ops n ≡ Some o → Nested ops o.guard nested → Uncovered ops fields n marks
    → Uncovered ops fields (n + 1) (mark_each ops o.guard (drop nested o.guard) marks)
uncovered_more ops fields n nested o marks is nests u = record {
  long = each_long ops o.guard (drop nested o.guard) marks ∙ u.long;
  told = λ c w h e.
      let under : is_under ops o.guard c ≡ includes o.guard w.guard = ap (λ (x : Option Op). option_map_or (λ (v : Op). includes o.guard v.guard) x true) e in
      each_at ops o.guard (drop nested o.guard) marks c (subst (λ m. c < m) (sym u.long) h)
      ∙ ap₂ (λ (a b : Bool). a || b) (only_later ops o.guard nested c nests (is_under ops o.guard c) refl ∙ ap (λ (b : Bool). tests c o && not b) under) (u.told c w h e)
      ∙ joined (tests c o) (includes o.guard w.guard) (covers (take n ops) c w.guard)
      ∙ ap not (sym (ap (λ (l : List Op). covers l c w.guard) (take_one_more ops n o is) ∙ list_all-append (λ (p : Op). not (tests c p) || includes p.guard w.guard) (take n ops) (o ∷ [])));
}

-- ---- from one operation to the next

pub nested_next : (ops : List Op) (i j n kept : ℕ) (p : Op) (a b : List Literal) → j ≡ i - 1 → j < length ops → p ≡ slice_index_or ops j p → a ≡ p.guard → Alike a b kept → kept ≤ n → NestedBefore ops i n → Nested ops b kept
nested_next ops i j n kept p a b at below is guard alike h before =
    nested_shared ops a b kept n alike h (subst (λ (g : List Literal). Nested ops g n) (sym guard) (before p (ap (slice_get ops) (sym at) ∙ at_some ops j p below is)))

pub nested_here : (ops : List Op) (i n : ℕ) (p : Op) (b : List Literal) → i < length ops → p ≡ slice_index_or ops i p → b ≡ p.guard → Nested ops b n → NestedBefore ops (i + 1) n
nested_here ops i n p b below is guard nested o e =
    let at : i + 1 - 1 ≡ i = omega arith in
    let one : Some p ≡ Some o = sym (at_some ops i p below is) ∙ ap (slice_get ops) (sym at) ∙ e in
    let same : p ≡ o = cc in
    subst (λ (g : List Literal). Nested ops g n) (guard ∙ ap (λ (x : Op). x.guard) same) nested

pub marks_here : (ops : List Op) (fields i n : ℕ) (p : Op) (b ls : List Literal) (marks marks' : List Bool) → i < length ops → p ≡ slice_index_or ops i p → b ≡ p.guard → Nested ops b n → ls ≡ drop n b → marks' ≡ mark_each ops b ls marks
    → Uncovered ops fields i marks → Uncovered ops fields (i + 1) marks'
marks_here ops fields i n p b ls marks marks' below is guard nested rest made u =
    subst (Uncovered ops fields (i + 1)) (sym (made ∙ ap₂ (λ (g ks : List Literal). mark_each ops g ks marks) guard (rest ∙ ap (drop n) guard)))
    (uncovered_more ops fields i n p marks (at_some ops i p below is) (subst (λ (g : List Literal). Nested ops g n) guard nested) u)

-- Of two literals that are opposed one is contested, and the other is too or is the one at its field's place.
use Rattle.std.proofs.Common.{◌≡◌, ◌%◌, List, [], ◌∷◌, Option, Some, None, Bool, true, false, not, ◌&&◌, ◌||◌, if◌then◌else◌, cond, nat_eq, slice_get, refl, sym, ap, ap₂, ◌∙◌, ⊎_elim}
use Rattle.std.specs.List.{list_any, filter}
use Rattle.std.proofs.lemmas.Option.{same_Some}
use Rattle.std.proofs.lemmas.Bool.{and_parts, and_from, or_cases, or_left, or_right, eqb-true, eq-eqb, true≢false}
use Rattle.lucid_base.proofs.NumbersLemmas.{nat_eq_swap}
use Rattle.lucid_code.specs.declared.op.Literal.{Literal}
use Rattle.lucid_code.specs.Guards.{opposed, contradict}
use Rattle.lucid_merge.specs.Product.{is_same, has}
use Rattle.lucid_merge.specs.Contested.{field_slot, is_found, is_contested, contested, opposes_found, opposes_lone}
use Rattle.lucid_merge.proofs.Literals.{literal_is, same_refl}

signs_turned : (t u e : Bool) → (if t then (if u then not e else e) else u && e) ≡ (if u then (if t then not e else e) else t && e)
signs_turned true true e = refl
signs_turned true false e = refl
signs_turned false true e = refl
signs_turned false false e = refl

opposed_turned : (l m : Literal) → opposed l m ≡ opposed m l
opposed_turned l m =
    ap (λ b. b && (if l.equal then (if m.equal then not (nat_eq l.value m.value) else nat_eq l.value m.value) else m.equal && nat_eq l.value m.value)) (nat_eq_swap l.field m.field)
    ∙ ap (λ b. nat_eq m.field l.field && b) (signs_turned l.equal m.equal (nat_eq l.value m.value) ∙ ap (λ e. if m.equal then (if l.equal then not e else e) else l.equal && e) (nat_eq_swap l.value m.value))

self_unopposed : (l : Literal) → opposed l l ≡ false
self_unopposed l = by l.equal (nat_eq l.value l.value) (eq-eqb l.value l.value refl)
  where
    and_false : (b : Bool) → (b && false) ≡ false
    and_false true = refl
    and_false false = refl

    by : (t e : Bool) → e ≡ true → (nat_eq l.field l.field && (if t then (if t then not e else e) else t && e)) ≡ false
    by true true h = and_false (nat_eq l.field l.field)
    by true false h = absurd (true≢false (sym h))
    by false e h = and_false (nat_eq l.field l.field)

opposed_field : (l m : Literal) → opposed l m ≡ true → l.field ≡ m.field
opposed_field l m h = eqb-true l.field m.field (and_parts (nat_eq l.field m.field) (if l.equal then (if m.equal then not (nat_eq l.value m.value) else nat_eq l.value m.value) else m.equal && nat_eq l.value m.value) h).0

found_is : (l : Literal) (o : Option Literal) → is_found l o ≡ true → o ≡ Some l
found_is l None h = absurd (true≢false (sym h))
found_is l (Some m) h = ap Some (sym (literal_is l m h))

-- ---- literals of patterns

-- a literal of the pattern that passes a test
any_has : (t : Literal → Bool) (p : List Literal) → list_any t p ≡ true → (l : Literal) × (has p l ≡ true) × (t l ≡ true)
any_has t [] h = absurd (true≢false (sym h))
any_has t (m ∷ p) h = ⊎_elim
    (λ e. (m, or_left (is_same m m) (has p m) (same_refl m), e))
    (λ e. let found = any_has t p e in (found.0, or_right (is_same found.0 m) (has p found.0) found.1, found.2))
    (or_cases (t m) (list_any t p) h)

has_any : (t : Literal → Bool) (p : List Literal) (l : Literal) → has p l ≡ true → t l ≡ true → list_any t p ≡ true
has_any t [] l n h = absurd (true≢false (sym n))
has_any t (m ∷ p) l n h = ⊎_elim
    (λ e. or_left (t m) (list_any t p) (ap t (sym (literal_is l m e)) ∙ h))
    (λ e. or_right (t m) (list_any t p) (has_any t p l e h))
    (or_cases (is_same l m) (has p l) n)

filter_has : (t : Literal → Bool) (p : List Literal) (l : Literal) → has (filter t p) l ≡ true → has p l ≡ true
filter_has t [] l h = h
filter_has t (m ∷ p) l h = by (t m) (λ e. filter_has t p l e) h
  where
    by : (b : Bool) → (has (filter t p) l ≡ true → has p l ≡ true) → has (cond b (m ∷ filter t p) (filter t p)) l ≡ true → has (m ∷ p) l ≡ true
    by true more e = ⊎_elim (λ s. or_left (is_same l m) (has p l) s) (λ s. or_right (is_same l m) (has p l) (more s)) (or_cases (is_same l m) (has (filter t p) l) e)
    by false more e = or_right (is_same l m) (has p l) (more e)

has_filter : (t : Literal → Bool) (p : List Literal) (l : Literal) → has p l ≡ true → t l ≡ true → has (filter t p) l ≡ true
has_filter t [] l n h = n
has_filter t (m ∷ p) l n h = ⊎_elim (λ s. here (t m) refl s) (λ s. later (t m) (has_filter t p l s h)) (or_cases (is_same l m) (has p l) n)
  where
    here : (b : Bool) → t m ≡ b → is_same l m ≡ true → has (cond b (m ∷ filter t p) (filter t p)) l ≡ true
    here true e s = or_left (is_same l m) (has (filter t p) l) s
    here false e s = absurd (true≢false (sym h ∙ ap t (literal_is l m s) ∙ e))

    later : (b : Bool) → has (filter t p) l ≡ true → has (cond b (m ∷ filter t p) (filter t p)) l ≡ true
    later true s = or_right (is_same l m) (has (filter t p) l) s
    later false s = s

-- ---- two patterns

contradict_from : (p q : List Literal) (l m : Literal) → has p l ≡ true → has q m ≡ true → opposed l m ≡ true → contradict p q ≡ true
contradict_from p q l m n k o = has_any (λ l. list_any (opposed l) q) p l n (has_any (opposed l) q m k o)

contradict_turned : (p q : List Literal) → contradict p q ≡ true → contradict q p ≡ true
contradict_turned p q h =
    let of_p = any_has (λ l. list_any (opposed l) q) p h in
    let of_q = any_has (opposed of_p.0) q of_p.2 in
    contradict_from q p of_q.0 of_p.0 of_q.1 of_p.1 (sym (opposed_turned of_p.0 of_q.0) ∙ of_q.2)

not_true : (b : Bool) → not b ≡ false → b ≡ true
not_true true e = refl
not_true false e = absurd (true≢false e)

module _ (lone : List Literal) where
  -- a literal that isn't contested is at its place
  placed : (l : Literal) → is_contested lone l ≡ false → slice_get lone (field_slot l) ≡ Some l
  placed l c = found_is l (slice_get lone (field_slot l)) (not_true (is_found l (slice_get lone (field_slot l))) c)

  placed_for : (l m : Literal) → opposed l m ≡ true → is_contested lone m ≡ false → slice_get lone (field_slot l) ≡ Some m
  placed_for l m o c = ap (λ k. slice_get lone (k % 4096)) (opposed_field l m o) ∙ placed m c

  meets : (p : List Literal) (l m : Literal) → opposed l m ≡ true → is_contested lone m ≡ false → has p m ≡ true → opposes_lone lone p l ≡ true
  meets p l m o c n = ap (opposes_found p l) (placed_for l m o c) ∙ and_from (opposed l m) (has p m) o n

  both_lone : (l m : Literal) → opposed l m ≡ true → is_contested lone l ≡ false → is_contested lone m ≡ false → true ≡ false
  both_lone l m o c d = sym o ∙ ap (opposed l) (same_Some m l (sym (placed_for l m o d) ∙ placed l c)) ∙ self_unopposed l

  module _ (p q : List Literal) where
    abbrev in_lists : Bool
    in_lists = contradict (contested lone p) (contested lone q)

    abbrev of_p : Bool
    of_p = list_any (opposes_lone lone q) (contested lone p)

    abbrev of_q : Bool
    of_q = list_any (opposes_lone lone p) (contested lone q)

    from_lists : in_lists ≡ true → contradict p q ≡ true
    from_lists h =
        let l = any_has (λ l. list_any (opposed l) (contested lone q)) (contested lone p) h in
        let m = any_has (opposed l.0) (contested lone q) l.2 in
        contradict_from p q l.0 m.0 (filter_has (is_contested lone) p l.0 l.1) (filter_has (is_contested lone) q m.0 m.1) m.2

    to_any : contradict p q ≡ true → (in_lists || of_p || of_q) ≡ true
    to_any h =
        let l = any_has (λ l. list_any (opposed l) q) p h in
        let m = any_has (opposed l.0) q l.2 in
        by l.0 m.0 l.1 m.1 m.2 (is_contested lone l.0) (is_contested lone m.0) refl refl
      where
        by : (l m : Literal) → has p l ≡ true → has q m ≡ true → opposed l m ≡ true → (c d : Bool) → is_contested lone l ≡ c → is_contested lone m ≡ d → (in_lists || of_p || of_q) ≡ true
        by l m n k o true true c d = or_left (in_lists || of_p) of_q (or_left in_lists of_p
            (contradict_from (contested lone p) (contested lone q) l m (has_filter (is_contested lone) p l n c) (has_filter (is_contested lone) q m k d) o))
        by l m n k o true false c d = or_left (in_lists || of_p) of_q (or_right in_lists of_p
            (has_any (opposes_lone lone q) (contested lone p) l (has_filter (is_contested lone) p l n c) (meets q l m o d k)))
        by l m n k o false true c d = or_right (in_lists || of_p) of_q
            (has_any (opposes_lone lone p) (contested lone q) m (has_filter (is_contested lone) q m k d) (meets p m l (sym (opposed_turned l m) ∙ o) c n))
        by l m n k o false false c d = absurd (true≢false (both_lone l m o c d))

  from_lone : (p q : List Literal) → list_any (opposes_lone lone q) (contested lone p) ≡ true → contradict p q ≡ true
  from_lone p q h =
      let l = any_has (opposes_lone lone q) (contested lone p) h in
      by l.0 (filter_has (is_contested lone) p l.0 l.1) (slice_get lone (field_slot l.0)) l.2
    where
      by : (l : Literal) → has p l ≡ true → (o : Option Literal) → opposes_found q l o ≡ true → contradict p q ≡ true
      by l n None e = absurd (true≢false (sym e))
      by l n (Some m) e = let parts = and_parts (opposed l m) (has q m) e in contradict_from p q l m n parts.1 parts.0

-- Two patterns contradict each other exactly if their contested literals do, or one of these and the one at its place.
pub contradict_apart : (lone p q : List Literal) → contradict p q ≡ (contradict (contested lone p) (contested lone q) || list_any (opposes_lone lone q) (contested lone p) || list_any (opposes_lone lone p) (contested lone q))
contradict_apart lone p q = by (contradict p q) (in_lists lone p q || of_p lone p q || of_q lone p q) (to_any lone p q)
    (λ h. ⊎_elim
    (λ e. ⊎_elim (from_lists lone p q) (from_lone lone p q) (or_cases (in_lists lone p q) (of_p lone p q) e))
    (λ e. contradict_turned q p (from_lone lone q p e))
    (or_cases (in_lists lone p q || of_p lone p q) (of_q lone p q) h))
  where
    by : (x y : Bool) → (x ≡ true → y ≡ true) → (y ≡ true → x ≡ true) → x ≡ y
    by true y f g = sym (f refl)
    by false true f g = g refl
    by false false f g = refl

-- The same, where the lists are at hand.
pub contradict_lists : (lone p q c d : List Literal) → c ≡ contested lone p → d ≡ contested lone q →
    contradict p q ≡ (contradict c d || (list_any (opposes_lone lone q) c || list_any (opposes_lone lone p) d))
contradict_lists lone p q c d e f =
    contradict_apart lone p q
    ∙ assoc (in_lists lone p q) (of_p lone p q) (of_q lone p q)
    ∙ sym (ap₂ (λ (x y : List Literal). contradict x y || (list_any (opposes_lone lone q) x || list_any (opposes_lone lone p) y)) e f)
  where
    assoc : (x y z : Bool) → ((x || y) || z) ≡ (x || (y || z))
    assoc true y z = refl
    assoc false y z = refl

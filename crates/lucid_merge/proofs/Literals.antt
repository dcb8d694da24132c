-- Literals and patterns: the literals of a pattern, the union of two, and when one includes another.
use Rattle.std.proofs.Common.{◌≡◌, ℕ, zero, suc, List, [], ◌∷◌, ◌++◌, Some, Bool, true, false, not, ◌&&◌, ◌||◌, if◌then◌else◌, map, nat_eq, slice_get, refl, sym, ap, ap₂, ◌∙◌, ⊎_elim}
use Rattle.std.specs.List.{fold, list_all}
use Rattle.std.proofs.lemmas.Bool.{and_parts, and_from, or_cases, or_left, or_right, eqb-true, eq-eqb, true≢false}
use Rattle.std.proofs.lemmas.Option.{same_Some, none-some}
use Rattle.lucid_code.specs.declared.op.Literal.{Literal}
use Rattle.lucid_tables.specs.Numbers.{is_in}
use Rattle.lucid_merge.specs.Product.{is_same, has, with_literal, union, includes}

same_sign : (t u : Bool) → (if t then u else not u) ≡ true → t ≡ u
same_sign true true h = refl
same_sign true false h = sym h
same_sign false true h = h
same_sign false false h = refl

pub literal_is : (l m : Literal) → is_same l m ≡ true → l ≡ m
literal_is l m h =
    let outer = and_parts (nat_eq l.field m.field && (if l.equal then m.equal else not m.equal)) (nat_eq l.value m.value) h in
    let inner = and_parts (nat_eq l.field m.field) (if l.equal then m.equal else not m.equal) outer.0 in
    parts (eqb-true l.field m.field inner.0) (same_sign l.equal m.equal inner.1) (eqb-true l.value m.value outer.1)
  where
    parts : l.field ≡ m.field → l.equal ≡ m.equal → l.value ≡ m.value → l ≡ m
    parts f e v = ap₂ (λ (k : ℕ) (t : Bool). record { field = k; equal = t; value = l.value }) f e ∙ ap (λ n. record { field = m.field; equal = m.equal; value = n }) v

pub same_refl : (l : Literal) → is_same l l ≡ true
same_refl l = and_from (nat_eq l.field l.field && (if l.equal then l.equal else not l.equal)) (nat_eq l.value l.value)
    (and_from (nat_eq l.field l.field) (if l.equal then l.equal else not l.equal) (eq-eqb l.field l.field refl) (sign l.equal)) (eq-eqb l.value l.value refl)
  where
    sign : (t : Bool) → (if t then t else not t) ≡ true
    sign true = refl
    sign false = refl

has_push : (p : List Literal) (m l : Literal) → has (p ++ m ∷ []) l ≡ (has p l || is_same l m)
has_push [] m l = or_none (is_same l m)
  where
    or_none : (b : Bool) → (b || false) ≡ b
    or_none true = refl
    or_none false = refl
has_push (n ∷ p) m l = ap (λ b. is_same l n || b) (has_push p m l) ∙ assoc (is_same l n) (has p l) (is_same l m)
  where
    assoc : (a b c : Bool) → (a || (b || c)) ≡ ((a || b) || c)
    assoc true b c = refl
    assoc false b c = refl

has_with : (p : List Literal) (m l : Literal) → has (with_literal p m) l ≡ (has p l || is_same l m)
has_with p m l = by (has p m) refl
  where
    there : has p m ≡ true → (t : Bool) → is_same l m ≡ t → has p l ≡ (has p l || t)
    there h true e = ap (has p) (literal_is l m e) ∙ h ∙ sym (or_right (has p l) true refl)
    there h false e = none (has p l)
      where
        none : (b : Bool) → b ≡ (b || false)
        none true = refl
        none false = refl

    by : (t : Bool) → has p m ≡ t → has (if t then p else p ++ m ∷ []) l ≡ (has p l || is_same l m)
    by true h = there h (is_same l m) refl
    by false h = has_push p m l

pub has_fold : (q p : List Literal) (l : Literal) → has (fold with_literal p q) l ≡ (has p l || has q l)
has_fold [] p l = none (has p l)
  where
    none : (b : Bool) → b ≡ (b || false)
    none true = refl
    none false = refl
has_fold (m ∷ q) p l = has_fold q (with_literal p m) l ∙ ap (λ b. b || has q l) (has_with p m l) ∙ assoc (has p l) (is_same l m) (has q l)
  where
    assoc : (a b c : Bool) → ((a || b) || c) ≡ (a || (b || c))
    assoc true b c = refl
    assoc false b c = refl

pub has_union : (p q : List Literal) (l : Literal) → has (union p q) l ≡ (has p l || has q l)
has_union p q l = has_fold q (fold with_literal [] p) l ∙ ap (λ b. b || has q l) (has_fold p [] l)

pub included : (p q : List Literal) → includes p q ≡ true → (l : Literal) → has q l ≡ true → has p l ≡ true
included p [] h l n = absurd (true≢false (sym n))
included p (m ∷ q) h l n =
    let parts = and_parts (has p m) (includes p q) h in
    ⊎_elim (λ e. ap (has p) (literal_is l m e) ∙ parts.0) (λ e. included p q parts.1 l e) (or_cases (is_same l m) (has q l) n)

pub includes_from : (p q : List Literal) → ((l : Literal) → has q l ≡ true → has p l ≡ true) → includes p q ≡ true
includes_from p [] h = refl
includes_from p (m ∷ q) h = and_from (has p m) (includes p q) (h m (or_left (is_same m m) (has q m) (same_refl m))) (includes_from p q (λ l n. h l (or_right (is_same l m) (has q l) n)))

-- a pattern's literal is one of it
pub has_field : (p : List Literal) (l : Literal) → has p l ≡ true → is_in l.field (map (λ (l : Literal). l.field) p) ≡ true
has_field [] l h = absurd (true≢false (sym h))
has_field (m ∷ p) l h = ⊎_elim
    (λ e. or_left (nat_eq m.field l.field) (is_in l.field (map (λ (l : Literal). l.field) p)) (eq-eqb m.field l.field (ap (λ (l : Literal). l.field) (sym (literal_is l m e)))))
    (λ e. or_right (nat_eq m.field l.field) (is_in l.field (map (λ (l : Literal). l.field) p)) (has_field p l e))
    (or_cases (is_same l m) (has p l) h)

-- a test that all literals pass
pub passes : (t : Literal → Bool) (p : List Literal) (l : Literal) → list_all t p ≡ true → has p l ≡ true → t l ≡ true
passes t [] l a h = absurd (true≢false (sym h))
passes t (m ∷ p) l a h =
    let parts = and_parts (t m) (list_all t p) a in
    ⊎_elim (λ e. ap t (literal_is l m e) ∙ parts.0) (λ e. passes t p l parts.1 e) (or_cases (is_same l m) (has p l) h)

-- a literal at some position is one of the pattern
pub has_got : (p : List Literal) (i : ℕ) (m l : Literal) → slice_get p i ≡ Some m → is_same l m ≡ true → has p l ≡ true
has_got [] i m l e h = absurd (none-some m e)
has_got (n ∷ p) zero m l e h = or_left (is_same l n) (has p l) (ap (is_same l) (same_Some n m e) ∙ h)
has_got (n ∷ p) (suc i) m l e h = or_right (is_same l n) (has p l) (has_got p i m l e h)

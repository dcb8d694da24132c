-- The refusals of a table that are remembered are true of it.
use Rattle.std.proofs.Common.{◌≡◌, ℕ, ◌<◌, List, [], ◌∷◌, ◌++◌, Bool, true, false, ◌||◌, cond, length, map, slice_index_or, refl, sym, ap, ◌∙◌, ⊎_elim, arith}
use Rattle.std.specs.List.{flat_map, list_any}
use Rattle.std.proofs.lemmas.Bool.{or_cases, or_left, or_right, true≢false, false_from_ne_true}
use Rattle.std.proofs.lemmas.List.{length-map}
use Rattle.std.proofs.lemmas.List.Folds.{list_any-append, list_any_at}
use Rattle.lucid_code.specs.declared.op.Literal.{Literal}
use Rattle.lucid_code.specs.Guards.{opposed, contradict}
use Rattle.lucid_tables.specs.declared.table.Row.{Row}
use Rattle.lucid_tables.specs.Numbers.{is_in, with_number, with_numbers}
use Rattle.lucid_tables.specs.Rows.{named_fields}
use Rattle.lucid_tables.proofs.Rising.{in_with_numbers}
use Rattle.lucid_merge.specs.Product.{is_same, has, product}
use Rattle.lucid_merge.specs.RowCounts.{patterns_of, SameFor, CanMatch, RowsAreCounted}
use Rattle.lucid_merge.proofs.Literals.{literal_is, same_refl}
use Rattle.lucid_refusals.specs.Refusal.{Refuses, StandsFor, fields_of, shared}

-- the fields of rows are those of their patterns
named_of : (a : List Row) → named_fields a ≡ flat_map (λ p. map (λ (l : Literal). l.field) p) (patterns_of a)
named_of [] = refl
named_of (r ∷ a) = ap (λ l. map (λ (l : Literal). l.field) r.pattern ++ l) (named_of a)

same_named : (a b : List Row) (k : ℕ) → patterns_of a ≡ patterns_of b → is_in k (named_fields a) ≡ is_in k (named_fields b)
same_named a b k e = ap (is_in k) (named_of a ∙ ap (flat_map (λ p. map (λ (l : Literal). l.field) p)) e ∙ sym (named_of b))

pub in_fields : (a : List Row) (patterns : List (List Literal)) (k : ℕ) → patterns_of a ≡ patterns → is_in k (fields_of patterns) ≡ is_in k (named_fields a)
in_fields a patterns k e = in_with_numbers (flat_map (λ p. map (λ (l : Literal). l.field) p) patterns) [] k ∙ sym (ap (is_in k) (named_of a ∙ ap (flat_map (λ p. map (λ (l : Literal). l.field) p)) e))

-- what a pattern has of these fields
has_shared : (fields : List ℕ) (p : List Literal) (l : Literal) → is_in l.field fields ≡ true → has (shared fields p) l ≡ has p l
has_shared fields [] l h = refl
has_shared fields (m ∷ p) l h = by (is_in m.field fields) refl (has_shared fields p l h)
  where
    off : (b : Bool) → is_same l m ≡ b → is_in m.field fields ≡ false → has (shared fields p) l ≡ has p l → has (shared fields p) l ≡ (b || has p l)
    off true s e rest = absurd (true≢false (sym h ∙ ap (λ (l : Literal). is_in l.field fields) (literal_is l m s) ∙ e))
    off false s e rest = rest

    by : (b : Bool) → is_in m.field fields ≡ b → has (shared fields p) l ≡ has p l → has (cond b (m ∷ shared fields p) (shared fields p)) l ≡ (is_same l m || has p l)
    by true e rest = ap (λ b. is_same l m || b) rest
    by false e rest = off (is_same l m) refl e rest

-- ---- rows that stand for others

sizes : RowsAreCounted → (a b c d : List Row) → patterns_of a ≡ patterns_of c → patterns_of b ≡ patterns_of d → length (product a b) ≡ length (product c d)
sizes counted a b c d e f =
    sym (length-map (product a b) (λ (r : Row). r.pattern)) ∙ ap length (counted.patterns a b c d e f) ∙ length-map (product c d) (λ (r : Row). r.pattern)

pub stands_plain : RowsAreCounted → (fields : List ℕ) (more : List Row) → StandsFor fields more (patterns_of more)
stands_plain counted fields more a b e f = sizes counted a more a b refl (sym f)

-- all literals of the one pattern are in the other
abbrev IsWithin : List Literal → List Literal → Type 0
IsWithin s p = (l : Literal) → has s l ≡ true → has p l ≡ true

any_within : (t u : Literal → Bool) (s p : List Literal) → IsWithin s p → ((l : Literal) → t l ≡ true → u l ≡ true) → list_any t s ≡ true → list_any u p ≡ true
any_within t u s p w f h = let l = one s h in other p l.0 (w l.0 l.1) (f l.0 l.2)
  where
    one : (s : List Literal) → list_any t s ≡ true → (l : Literal) × (has s l ≡ true) × (t l ≡ true)
    one [] h = absurd (true≢false (sym h))
    one (m ∷ s) h = ⊎_elim
        (λ (e : t m ≡ true). (m, or_left (is_same m m) (has s m) (same_refl m), e))
        (λ (e : list_any t s ≡ true). let r = one s e in (r.0, or_right (is_same r.0 m) (has s r.0) r.1, r.2))
        (or_cases (t m) (list_any t s) h)

    other : (p : List Literal) (l : Literal) → has p l ≡ true → u l ≡ true → list_any u p ≡ true
    other [] l h e = absurd (true≢false (sym h))
    other (m ∷ p) l h e = ⊎_elim
        (λ (s : is_same l m ≡ true). or_left (u m) (list_any u p) (ap u (sym (literal_is l m s)) ∙ e))
        (λ (r : has p l ≡ true). or_right (u m) (list_any u p) (other p l r e))
        (or_cases (is_same l m) (has p l) h)

contradicts_within : (s p : List Literal) → IsWithin s p → contradict s s ≡ true → contradict p p ≡ true
contradicts_within s p w h =
    any_within (λ (l : Literal). list_any (opposed l) s) (λ (l : Literal). list_any (opposed l) p) s p w (λ l e. any_within (opposed l) (opposed l) s p w (λ m o. o) e) h

shared_within : (fields : List ℕ) (p : List Literal) → IsWithin (shared fields p) p
shared_within fields [] l h = h
shared_within fields (m ∷ p) l h = by (is_in m.field fields) (λ g. shared_within fields p l g) h
  where
    by : (b : Bool) → (has (shared fields p) l ≡ true → has p l ≡ true) → has (cond b (m ∷ shared fields p) (shared fields p)) l ≡ true → has (m ∷ p) l ≡ true
    by true rest g = ⊎_elim
        (λ (e : is_same l m ≡ true). or_left (is_same l m) (has p l) e)
        (λ (e : has (shared fields p) l ≡ true). or_right (is_same l m) (has p l) (rest e))
        (or_cases (is_same l m) (has (shared fields p) l) g)
    by false rest g = or_right (is_same l m) (has p l) (rest g)

drop_false : (b : Bool) → (b || false) ≡ true → b ≡ true
drop_false true e = refl
drop_false false e = e

-- the literals of the fields, and one more
short_within : (fields : List ℕ) (p : List Literal) (m : Literal) → has p m ≡ true → IsWithin (shared fields p ++ m ∷ []) p
short_within fields p m i l h = ⊎_elim
    (λ (e : has (shared fields p) l ≡ true). shared_within fields p l e)
    (λ (e : (is_same l m || false) ≡ true). ap (has p) (literal_is l m (drop_false (is_same l m) e)) ∙ i)
    (or_cases (has (shared fields p) l) (is_same l m || false) (sym (list_any-append (is_same l) (shared fields p) (m ∷ [])) ∙ h))

short_has : (fields : List ℕ) (p : List Literal) (m l : Literal) → is_in m.field fields ≡ false → is_in l.field fields ≡ true → has p l ≡ has (shared fields p ++ m ∷ []) l
short_has fields p m l out inside = sym (list_any-append (is_same l) (shared fields p) (m ∷ []) ∙ by (is_same l m) refl ∙ has_shared fields p l inside)
  where
    by : (b : Bool) → is_same l m ≡ b → (has (shared fields p) l || (b || false)) ≡ has (shared fields p) l
    by true e = absurd (true≢false (sym inside ∙ ap (λ (l : Literal). is_in l.field fields) (literal_is l m e) ∙ out))
    by false e = none (has (shared fields p) l)
      where
        none : (b : Bool) → (b || (false || false)) ≡ b
        none true = refl
        none false = refl

pub stands_short : RowsAreCounted → (fields : List ℕ) (r : Row) (m : Literal) → CanMatch r → has r.pattern m ≡ true → is_in m.field fields ≡ false → StandsFor fields (r ∷ []) ((shared fields r.pattern ++ m ∷ []) ∷ [])
stands_short counted fields r m can i out a b e f =
    let s : Row = record { pattern = shared fields r.pattern ++ m ∷ []; ops = [] } in
    let named : (k : ℕ) → is_in k fields ≡ is_in k (named_fields a) = λ k. ap (is_in k) e ∙ in_fields a (patterns_of a) k refl in
    let within : IsWithin s.pattern r.pattern = short_within fields r.pattern m i in
    let can_too : CanMatch s = false_from_ne_true (contradict s.pattern s.pattern) (λ h. true≢false (sym (contradicts_within s.pattern r.pattern within h) ∙ can)) in
    let same : SameFor a r.pattern s.pattern = λ l n. short_has fields r.pattern m l out (named l.field ∙ n) in
    let new : is_in m.field (named_fields a) ≡ false = sym (named m.field) ∙ out in
    let has_it : has s.pattern m ≡ true = list_any-append (is_same m) (shared fields r.pattern) (m ∷ []) ∙ or_right (has (shared fields r.pattern) m) (is_same m m || false) (or_left (is_same m m) false (same_refl m)) in
    counted.new_field a r s can can_too same (m, i, new) (m, has_it, new) ∙ sizes counted a (s ∷ []) a b refl (sym f)

-- rows of these patterns
abbrev bare_row : List Literal → Row
bare_row p = record { pattern = p; ops = [] }

abbrev pub bare : List (List Literal) → List Row
bare ps = map (λ (p : List Literal). bare_row p) ps

pub bare_patterns : (ps : List (List Literal)) → patterns_of (bare ps) ≡ ps
bare_patterns [] = refl
bare_patterns (p ∷ ps) = ap (λ (qs : List (List Literal)). p ∷ qs) (bare_patterns ps)

pub refused : (rows other : ℕ) (patterns : List (List Literal)) (fields : List ℕ) (shape : List (List Literal)) (a more : List Row) → other ≡ rows → patterns_of a ≡ patterns → fields ≡ fields_of patterns → StandsFor fields more shape → Refuses other patterns shape →
    rows < length (product a more)
refused rows other patterns fields shape a more o e f s h =
    let same : length (product a more) ≡ length (product a (bare shape)) = s a (bare shape) (f ∙ ap fields_of (sym e)) (bare_patterns shape) in
    let more_rows : other < length (product a (bare shape)) = h a (bare shape) e (bare_patterns shape) in
    omega (arith, o, same, more_rows)

pub refuses : RowsAreCounted → (rows : ℕ) (patterns : List (List Literal)) (fields : List ℕ) (shape : List (List Literal)) (a more : List Row) → patterns_of a ≡ patterns → fields ≡ fields_of patterns → StandsFor fields more shape → rows < length (product a more) →
    Refuses rows patterns shape
refuses counted rows patterns fields shape a more e f s h b c g i =
    let same : length (product a more) ≡ length (product a c) = s a c (f ∙ ap fields_of (sym e)) i in
    let again : length (product b c) ≡ length (product a c) = sizes counted b c a c (g ∙ sym e) refl in
    omega (arith, same, again, h)

numbers_append : (xs more rest : List ℕ) → with_numbers xs (more ++ rest) ≡ with_numbers (with_numbers xs more) rest
numbers_append xs [] rest = refl
numbers_append xs (k ∷ more) rest = numbers_append (with_number xs k) more rest

pub more_fields : (p : List Literal) (ps : List (List Literal)) (xs : List ℕ) →
    with_numbers xs (flat_map (λ p. map (λ (l : Literal). l.field) p) (p ∷ ps)) ≡ with_numbers (with_numbers xs (map (λ (l : Literal). l.field) p)) (flat_map (λ p. map (λ (l : Literal). l.field) p) ps)
more_fields p ps xs = numbers_append xs (map (λ (l : Literal). l.field) p) (flat_map (λ p. map (λ (l : Literal). l.field) p) ps)

-- ---- loops over patterns

pub has_at : (p : List Literal) (i : ℕ) (d : Literal) → i < length p → has p (slice_index_or p i d) ≡ true
has_at p i d h = list_any_at (is_same (slice_index_or p i d)) p i d h (same_refl (slice_index_or p i d))

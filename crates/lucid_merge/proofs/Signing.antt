-- Where two patterns include that of a row, their bits have all of the row's signature.
use Rattle.std.proofs.Common.{◌≡◌, ℕ, List, [], ◌∷◌, ◌++◌, Bool, true, false, not, ◌||◌, Result, Ok, Err, is_ok, if◌then◌else◌, max, nat_eq, slice_index_or, ◌+◌, ◌<◌, drop, length, zero, suc, refl, sym, ap, ap₂, subst, ◌∙◌, ⊎_elim, arith, bit_or}
use Rattle.std.specs.List.{list_all, list_any}
use Rattle.std.specs.Int.{bit_at}
use Rattle.std.specs.Int.Bits.{or_self}
use Rattle.std.proofs.lemmas.Nat.{or_comm}
use Rattle.std.proofs.lemmas.Nat.Bits.{bit_at_or, same_from_bits}
use Rattle.std.proofs.lemmas.List.{at_drop_more}
use Rattle.std.proofs.lemmas.Bool.{and_parts, and_from, or_cases, or_left, or_right, eqb-true, eq-eqb, true≢false}
use Rattle.lucid_code.specs.declared.op.Literal.{Literal}
use Rattle.lucid_tables.specs.declared.table.Row.{Row}
use Rattle.lucid_merge.specs.declared.kept.Signed.{Signed}
use Rattle.lucid_merge.specs.Product.{is_same, has, union, includes}
use Rattle.lucid_merge.specs.Signs.{bits_at, with_bits, is_signed, AreSigned, rows_of, covers, is_heard, AreHeard}
use Rattle.lucid_merge.proofs.Literals.{literal_is, has_union, included, same_refl}

pub or_assoc : (a b c : ℕ) → bit_or (bit_or a b) c ≡ bit_or a (bit_or b c)
or_assoc a b c = same_from_bits (bit_or (bit_or a b) c) (bit_or a (bit_or b c)) (λ i.
    bit_at_or (bit_or a b) c i ∙ ap (λ n. max n (bit_at c i)) (bit_at_or a b i)
    ∙ most (bit_at a i) (bit_at b i) (bit_at c i)
    ∙ sym (bit_at_or a (bit_or b c) i ∙ ap (λ n. max (bit_at a i) n) (bit_at_or b c i)))
  where
    most : (x y z : ℕ) → max (max x y) z ≡ max x (max y z)
    most x y z = omega arith

module _ (bits : List ℕ) where
  -- more bits take none away
  keeps : (t m : ℕ) (p : List Literal) → bit_or t m ≡ t → bit_or (with_bits bits t p) m ≡ with_bits bits t p
  keeps t m [] h = h
  keeps t m (l ∷ p) h = keeps (bit_or t (bits_at bits l)) m p (
      or_assoc t (bits_at bits l) m ∙ ap (bit_or t) (or_comm (bits_at bits l) m) ∙ sym (or_assoc t m (bits_at bits l)) ∙ ap (λ n. bit_or n (bits_at bits l)) h)

  -- those of a literal that the pattern has are there
  there : (t : ℕ) (p : List Literal) (l : Literal) → has p l ≡ true → bit_or (with_bits bits t p) (bits_at bits l) ≡ with_bits bits t p
  there t [] l h = absurd (true≢false (sym h))
  there t (m ∷ p) l h = ⊎_elim
      (λ e. subst (λ (k : Literal). bit_or (with_bits bits (bit_or t (bits_at bits m)) p) (bits_at bits k) ≡ with_bits bits (bit_or t (bits_at bits m)) p) (sym (literal_is l m e))
      (keeps (bit_or t (bits_at bits m)) (bits_at bits m) p (or_assoc t (bits_at bits m) (bits_at bits m) ∙ ap (bit_or t) (or_self (bits_at bits m)))))
      (λ e. there (bit_or t (bits_at bits m)) p l e)
      (or_cases (is_same l m) (has p l) h)

  -- a pattern all of whose literals' bits are there
  all_there : (s t : ℕ) (r : List Literal) → bit_or s t ≡ s → ((l : Literal) → has r l ≡ true → bit_or s (bits_at bits l) ≡ s) → bit_or s (with_bits bits t r) ≡ s
  all_there s t [] h f = h
  all_there s t (l ∷ r) h f = all_there s (bit_or t (bits_at bits l)) r
      (sym (or_assoc s t (bits_at bits l)) ∙ ap (λ n. bit_or n (bits_at bits l)) h ∙ f l (or_left (is_same l l) (has r l) (same_refl l)))
      (λ m n. f m (or_right (is_same m l) (has r m) n))

  module _ (p q : List Literal) where
    abbrev both : ℕ
    both = with_bits bits (with_bits bits 0 p) q

    both_have : (l : Literal) → has (union p q) l ≡ true → bit_or both (bits_at bits l) ≡ both
    both_have l h = ⊎_elim
        (λ e. keeps (with_bits bits 0 p) (bits_at bits l) q (there 0 p l e))
        (λ e. there (with_bits bits 0 p) q l e)
        (or_cases (has p l) (has q l) (sym (has_union p q l) ∙ h))

    none_lost : bit_or both 0 ≡ both
    none_lost = keeps (with_bits bits 0 p) 0 q (keeps 0 0 p (or_self 0))

    heard_one : (s : Signed) → is_signed bits s ≡ true → is_heard p q both s ≡ true
    heard_one s h = by (covers p q s) refl
      where
        by : (b : Bool) → covers p q s ≡ b → (not b || nat_eq (bit_or both s.sign) both) ≡ true
        by false e = refl
        by true e = eq-eqb (bit_or both s.sign) both (
            ap (bit_or both) (eqb-true s.sign (with_bits bits 0 s.row.pattern) h)
            ∙ all_there both 0 s.row.pattern none_lost (λ l n. both_have l (included (union p q) s.row.pattern e l n)))

    pub all_heard : (rows : List Signed) → AreSigned bits rows → AreHeard p q both rows
    all_heard [] h = refl
    all_heard (s ∷ rows) h =
        let parts = and_parts (is_signed bits s) (list_all (is_signed bits) rows) h in
        and_from (is_heard p q both s) (list_all (is_heard p q both) rows) (heard_one s parts.0) (all_heard rows parts.1)

  pub more_signed : (rows : List Signed) (s : Signed) → AreSigned bits rows → is_signed bits s ≡ true → AreSigned bits (rows ++ s ∷ [])
  more_signed [] s h t = and_from (is_signed bits s) true t refl
  more_signed (x ∷ rows) s h t =
      let parts = and_parts (is_signed bits x) (list_all (is_signed bits) rows) h in
      and_from (is_signed bits x) (list_all (is_signed bits) (rows ++ s ∷ [])) parts.0 (more_signed rows s parts.1 t)

-- ---- rows one by one

pub heard_at : (p q : List Literal) (sign : ℕ) (rows : List Signed) (i : ℕ) (s : Signed) → AreHeard p q sign rows → i < length rows → s ≡ slice_index_or rows i s → is_heard p q sign s ≡ true
heard_at p q sign [] i s h n e = absurd (omega (arith, n))
heard_at p q sign (x ∷ rows) zero s h n e = ap (is_heard p q sign) e ∙ (and_parts (is_heard p q sign x) (list_all (is_heard p q sign) rows) h).0
heard_at p q sign (x ∷ rows) (suc i) s h n e = heard_at p q sign rows i s (and_parts (is_heard p q sign x) (list_all (is_heard p q sign) rows) h).1 (omega (arith, n)) e

-- a signature with other bits means that the row isn't included
pub unheard : (p q : List Literal) (sign : ℕ) (s : Signed) → is_heard p q sign s ≡ true → nat_eq (bit_or sign s.sign) sign ≡ false → covers p q s ≡ false
unheard p q sign s h f = by (covers p q s) h
  where
    by : (b : Bool) → (not b || nat_eq (bit_or sign s.sign) sign) ≡ true → b ≡ false
    by false e = refl
    by true e = absurd (true≢false (sym e ∙ f))

pub heard_parts : (p q : List Literal) (sign : ℕ) (xs ys : List Signed) → AreHeard p q sign (xs ++ ys) → AreHeard p q sign xs × AreHeard p q sign ys
heard_parts p q sign [] ys h = (refl, h)
heard_parts p q sign (x ∷ xs) ys h =
    let parts = and_parts (is_heard p q sign x) (list_all (is_heard p q sign) (xs ++ ys)) h in
    let rest = heard_parts p q sign xs ys parts.1 in
    (and_from (is_heard p q sign x) (list_all (is_heard p q sign) xs) parts.0 rest.0, rest.1)

-- the row of a turn
pub row_heard : (f : Signed → Bool) (rows : List Signed) (i : ℕ) (s : Signed) → list_all f rows ≡ true → i < length rows → s ≡ slice_index_or rows i s → f s ≡ true
row_heard f [] i s h l e = absurd (omega (arith, l))
row_heard f (r ∷ rows) zero s h l e = ap f e ∙ (and_parts (f r) (list_all f rows) h).0
row_heard f (r ∷ rows) (suc i) s h l e = row_heard f rows i s (and_parts (f r) (list_all f rows) h).1 (omega (arith, l)) e

-- a turn decides, or else the rest does
pub turn : (f : Signed → Bool) (rows : List Signed) (i : ℕ) (s : Signed) → i < length rows → s ≡ slice_index_or rows i s → list_any f (drop i rows) ≡ (f s || list_any f (drop (i + 1) rows))
turn f rows i s l e = at_drop_more (list_any f) rows i s l ∙ ap (λ r. f r || list_any f (drop (i + 1) rows)) (sym e)

pub covers_rows : (p q : List Literal) (rows : List Signed) → list_any (covers p q) rows ≡ list_any (λ (k : Row). includes (union p q) k.pattern) (rows_of rows)
covers_rows p q [] = refl
covers_rows p q (s ∷ rows) = ap (λ b. covers p q s || b) (covers_rows p q rows)

pub rows_push : (rows : List Signed) (s : Signed) → rows_of (rows ++ s ∷ []) ≡ rows_of rows ++ s.row ∷ []
rows_push [] s = refl
rows_push (x ∷ rows) s = ap (λ l. x.row ∷ l) (rows_push rows s)

-- the bits of two patterns, as they are put together
pub both_bits : (bits own : List ℕ) (p q : List Literal) (r s : ℕ) → own ≡ bits → r ≡ with_bits own 0 p → s ≡ with_bits own r q → s ≡ with_bits bits (with_bits bits 0 p) q
both_bits bits own p q r s e f g = g ∙ ap₂ (λ (b : List ℕ) (n : ℕ). with_bits b n q) e (f ∙ ap (λ (b : List ℕ). with_bits b 0 p) e)

-- a row that is put behind the others with its signature, or isn't
pub kept_still : {A E : Type 0} (bits : List ℕ) (rows after : List Signed) (row : Row) (sign : ℕ) (r : Result A E) → AreSigned bits rows → sign ≡ with_bits bits 0 row.pattern →
    after ≡ (if is_ok r then rows ++ record { row = row; sign = sign } ∷ [] else rows) → AreSigned bits after
kept_still bits rows after row sign (Ok u) h s is = subst (AreSigned bits) (sym is) (more_signed bits rows (record { row = row; sign = sign }) h (eq-eqb sign (with_bits bits 0 row.pattern) s))
kept_still bits rows after row sign (Err e) h s is = subst (AreSigned bits) (sym is) h

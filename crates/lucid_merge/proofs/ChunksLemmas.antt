-- Chunks of rows: they make up all rows, and a pair that lacks one of the bits of a chunk includes none of its rows.
use Rattle.std.proofs.Common.{◌≡◌, ℕ, zero, suc, ◌+◌, ◌*◌, ◌/◌, ◌%◌, ◌<◌, ◌≤◌, min, max, List, [], ◌∷◌, ◌++◌, Bool, true, false, ◌&&◌, ◌||◌, Result, Ok, Err, is_ok, if◌then◌else◌, length, take, drop, nat_eq, nat_lt, slice_index, slice_set, bit_and, bit_or, refl, sym, ap, subst, ◌∙◌, arith, length-take, take-append-drop, drop_of_length-le, take_all, take-take, drop-drop, get_or-set_same, get_or-set_other, eq-eqb, eqb-true, ltb-true, ltb-false, length-append}
use Rattle.std.proofs.lemmas.Nat.{and_le_l}
use Rattle.std.proofs.lemmas.List.{get_or_append_left, get_or_push, get_or_past}
use Rattle.std.specs.List.{list_all, list_any}
use Rattle.std.specs.Int.{bit_at}
use Rattle.std.specs.Int.Bits.{or_self}
use Rattle.std.proofs.lemmas.List.Folds.{list_any-append}
use Rattle.std.proofs.lemmas.Nat.Bits.{bit_at_or, bit_at_and, same_from_bits}
use Rattle.std.proofs.Math.Bool.{or_comm}
use Rattle.std.proofs.lemmas.Bool.{and_parts, and_from, true≢false, false_from_ne_true}
use Rattle.lucid_code.specs.declared.op.Literal.{Literal}
use Rattle.lucid_merge.specs.declared.kept.Signed.{Signed}
use Rattle.lucid_merge.specs.Chunks.{chunk, between, has_common, HaveInCommon, AreCommon, with_common}
use Rattle.lucid_merge.specs.Signs.{covers, is_heard, AreHeard}
use Rattle.lucid_merge.proofs.Signing.{or_assoc, unheard, heard_parts}

-- ---- bits

-- fewer bits are there, too
fewer_bits : (x c s : ℕ) → bit_or x c ≡ x → bit_or x (bit_and c s) ≡ x
fewer_bits x c s h = same_from_bits (bit_or x (bit_and c s)) x (λ i.
    bit_at_or x (bit_and c s) i ∙ ap (max (bit_at x i)) (bit_at_and c s i) ∙ least (bit_at x i) (bit_at c i) (bit_at s i) (sym (bit_at_or x c i) ∙ ap (λ n. bit_at n i) h))
  where
    least : (x c s : ℕ) → max x c ≡ x → max x (min c s) ≡ x
    least x c s h = omega (arith, h)

own_bits : (c s : ℕ) → bit_or s (bit_and c s) ≡ s
own_bits c s = same_from_bits (bit_or s (bit_and c s)) s (λ i. bit_at_or s (bit_and c s) i ∙ ap (max (bit_at s i)) (bit_at_and c s i) ∙ least (bit_at c i) (bit_at s i))
  where
    least : (c s : ℕ) → max s (min c s) ≡ s
    least c s = omega arith

through : (t s c : ℕ) → bit_or t s ≡ t → bit_or s c ≡ s → bit_or t c ≡ t
through t s c h g = ap (λ n. bit_or n c) (sym h) ∙ or_assoc t s c ∙ ap (bit_or t) g ∙ h

-- ---- a chunk that is ruled out

pub none_heard : (p q : List Literal) (sign common : ℕ) (rows : List Signed) → AreHeard p q sign rows → HaveInCommon common rows → nat_eq (bit_or sign common) sign ≡ false → list_any (covers p q) rows ≡ false
none_heard p q sign common [] heard has f = refl
none_heard p q sign common (s ∷ rows) heard has f =
    let parts = and_parts (has_common common s) (list_all (has_common common) rows) has in
    let lacks : nat_eq (bit_or sign s.sign) sign ≡ false = false_from_ne_true (nat_eq (bit_or sign s.sign) sign) (λ e.
    true≢false (sym (eq-eqb (bit_or sign common) sign (through sign s.sign common (eqb-true (bit_or sign s.sign) sign e) (eqb-true (bit_or s.sign common) s.sign parts.0))) ∙ f)) in
    let heards = and_parts (is_heard p q sign s) (list_all (is_heard p q sign) rows) heard in
    ap (λ b. b || list_any (covers p q) rows) (unheard p q sign s heards.0 lacks) ∙ none_heard p q sign common rows heards.1 parts.1 f

-- ---- the rows of chunks

inner : (a b m : ℕ) (xs : List Signed) → a + b ≤ m → take b (drop a (take m xs)) ≡ take b (drop a xs)
inner zero b m xs h = take-take b m xs (omega (arith, h))
inner (suc a) b zero xs h = absurd (omega (arith, h))
inner (suc a) b (suc m) [] h = refl
inner (suc a) b (suc m) (x ∷ xs) h = inner a b m xs (omega (arith, h))

pub next : (k to : ℕ) (rows : List Signed) → k < to → between k to rows ≡ chunk k rows ++ between (k + 1) to rows
next k to rows h =
    sym (take-append-drop 8 (between k to rows))
    ∙ ap (λ l. l ++ drop 8 (between k to rows)) (inner (k * 8) 8 (to * 8) rows (omega (arith, h)))
    ∙ ap (λ l. chunk k rows ++ l) (drop-drop 8 (k * 8) (take (to * 8) rows) ∙ ap (λ n. drop n (take (to * 8) rows)) (same k))
  where
    same : (k : ℕ) → k * 8 + 8 ≡ (k + 1) * 8
    same k = omega arith

pub ended : (k to : ℕ) (rows : List Signed) → to ≤ k → between k to rows ≡ []
ended k to rows h = drop_of_length-le (take (to * 8) rows) (omega (arith, length-take (to * 8) rows, h))

pub cut : (from : ℕ) (rows : List Signed) → rows ≡ between 0 from rows ++ between from (length rows / 8 + 1) rows
cut from rows = sym (ap (λ l. take (from * 8) rows ++ drop (from * 8) l) (take_all ((length rows / 8 + 1) * 8) rows (omega arith)) ∙ take-append-drop (from * 8) rows)

-- ---- one row more

module _ (t : Signed → Bool) where
  none_taken : (m j : ℕ) → list_all t (take m (drop j [])) ≡ true
  none_taken zero j = refl
  none_taken (suc m) zero = refl
  none_taken (suc m) (suc j) = refl

  more : (j m : ℕ) (rows : List Signed) (s : Signed) → list_all t (take m (drop j rows)) ≡ true → (j ≤ length rows → length rows < j + m → t s ≡ true) →
      list_all t (take m (drop j (rows ++ s ∷ []))) ≡ true
  more j zero rows s h f = refl
  more zero (suc m) [] s h f = and_from (t s) (list_all t (take m [])) (f (omega arith) (omega arith)) (none_taken m 0)
  more zero (suc m) (x ∷ rows) s h f =
      let parts = and_parts (t x) (list_all t (take m rows)) h in
      and_from (t x) (list_all t (take m (rows ++ s ∷ []))) parts.0 (more zero m rows s parts.1 (λ a b. f (omega arith) (omega (arith, b))))
  more (suc j) (suc m) [] s h f = none_taken (suc m) j
  more (suc j) (suc m) (x ∷ rows) s h f = more j (suc m) rows s h (λ a b. f (omega (arith, a)) (omega (arith, b)))

weaker : (c d : ℕ) → ((x : ℕ) → bit_or x c ≡ x → bit_or x d ≡ x) → (rows : List Signed) → HaveInCommon c rows → HaveInCommon d rows
weaker c d f [] h = refl
weaker c d f (s ∷ rows) h =
    let parts = and_parts (has_common c s) (list_all (has_common c) rows) h in
    and_from (has_common d s) (list_all (has_common d) rows) (eq-eqb (bit_or s.sign d) s.sign (f s.sign (eqb-true (bit_or s.sign c) s.sign parts.0))) (weaker c d f rows parts.1)

no_bits : (s : ℕ) → bit_or s 0 ≡ s
no_bits s =
    let none : bit_and 0 s ≡ 0 = omega (arith, and_le_l 0 s) in
    ap (bit_or s) (sym none) ∙ own_bits 0 s

-- the bits with those of row number n, by the cases of its chunk
module _ (commons : List ℕ) (n sign : ℕ) where
  abbrev old : ℕ
  old = slice_index commons (n / 8)

  abbrev new : Bool → Bool → List ℕ
  new a b = if a then slice_set commons (n / 8) (bit_and old sign) else (if b then commons ++ sign ∷ [] else commons)

  abbrev is_old : Bool
  is_old = nat_lt (n / 8) (length commons)

  abbrev is_next : Bool
  is_next = nat_eq (n % 8) 0 && nat_eq (n / 8) (length commons)

  set_same : (k : ℕ) → k ≡ n / 8 → n / 8 < length commons → slice_index (slice_set commons (n / 8) (bit_and old sign)) k ≡ bit_and old sign
  set_same k e h = ap (slice_index (slice_set commons (n / 8) (bit_and old sign))) e ∙ get_or-set_same commons (n / 8) (bit_and old sign) 0 h

  parts_of : is_next ≡ true → (n % 8 ≡ 0) × (n / 8 ≡ length commons)
  parts_of f =
      let parts = and_parts (nat_eq (n % 8) 0) (nat_eq (n / 8) (length commons)) f in
      (eqb-true (n % 8) 0 parts.0, eqb-true (n / 8) (length commons) parts.1)

  fewer : (a b : Bool) → is_old ≡ a → is_next ≡ b → (k : ℕ) → k * 8 < n → (x : ℕ) → bit_or x (slice_index commons k) ≡ x → bit_or x (slice_index (new a b) k) ≡ x
  fewer true b e f k lt x h = by (nat_eq k (n / 8)) refl
    where
      by : (c : Bool) → nat_eq k (n / 8) ≡ c → bit_or x (slice_index (slice_set commons (n / 8) (bit_and old sign)) k) ≡ x
      by true g = ap (bit_or x) (set_same k (eqb-true k (n / 8) g) (ltb-true (n / 8) (length commons) e)) ∙ fewer_bits x old sign (ap (λ j. bit_or x (slice_index commons j)) (sym (eqb-true k (n / 8) g)) ∙ h)
      by false g = ap (bit_or x) (get_or-set_other commons (n / 8) k (bit_and old sign) 0 (λ i. true≢false (sym (eq-eqb k (n / 8) i) ∙ g))) ∙ h
  fewer false true e f k lt x h =
      let parts = parts_of f in
      ap (bit_or x) (get_or_append_left commons (sign ∷ []) 0 k (omega (arith, lt, parts.0, parts.1))) ∙ h
  fewer false false e f k lt x h = h

  own : (a b : Bool) → is_old ≡ a → is_next ≡ b → (k : ℕ) → k * 8 ≤ n → n < k * 8 + 8 → bit_or sign (slice_index (new a b) k) ≡ sign
  own true b e f k le lt = ap (bit_or sign) (set_same k (omega (arith, le, lt)) (ltb-true (n / 8) (length commons) e)) ∙ own_bits old sign
  own false true e f k le lt =
      let parts = parts_of f in
      ap (bit_or sign) (get_or_push commons sign 0 k (omega (arith, le, lt, parts.0, parts.1))) ∙ or_self sign
  own false false e f k le lt = ap (bit_or sign) (get_or_past commons k 0 (omega (arith, le, lt, ltb-false (n / 8) (length commons) e))) ∙ no_bits sign

abbrev noted : List ℕ → List Signed → ℕ → ℕ → ℕ
noted commons rows sign k = slice_index (with_common commons (length rows) sign) k

pub commons_fewer : (commons : List ℕ) (rows : List Signed) (sign : ℕ) → AreCommon commons rows → AreCommon (with_common commons (length rows) sign) rows
commons_fewer commons rows sign h k = by (nat_lt (k * 8) (length rows)) refl
  where
    by : (b : Bool) → nat_lt (k * 8) (length rows) ≡ b → HaveInCommon (noted commons rows sign k) (chunk k rows)
    by true e = weaker (slice_index commons k) (noted commons rows sign k)
        (fewer commons (length rows) sign (is_old commons (length rows) sign) (is_next commons (length rows) sign) refl refl k (ltb-true (k * 8) (length rows) e)) (chunk k rows) (h k)
    by false e = subst (λ (l : List Signed). HaveInCommon (noted commons rows sign k) (take 8 l)) (sym (drop_of_length-le rows (ltb-false (k * 8) (length rows) e))) refl

pub commons_more : (commons : List ℕ) (rows : List Signed) (s : Signed) → AreCommon commons rows → AreCommon (with_common commons (length rows) s.sign) (rows ++ s ∷ [])
commons_more commons rows s h k =
    more (has_common (noted commons rows s.sign k)) (k * 8) 8 rows s (commons_fewer commons rows s.sign h k) (λ a b.
    eq-eqb (bit_or s.sign (noted commons rows s.sign k)) s.sign (own commons (length rows) s.sign (is_old commons (length rows) s.sign) (is_next commons (length rows) s.sign) refl refl k a b))

-- a row that is put behind the others, or isn't, after its signature is noted
pub commons_still : {A E : Type 0} (commons new : List ℕ) (rows after : List Signed) (s : Signed) (r : Result A E) → AreCommon commons rows → new ≡ with_common commons (length rows) s.sign →
    after ≡ (if is_ok r then rows ++ s ∷ [] else rows) → AreCommon new after
commons_still commons new rows after s (Ok u) h e is = subst (λ (c : List ℕ). AreCommon c after) (sym e) (subst (AreCommon (with_common commons (length rows) s.sign)) (sym is) (commons_more commons rows s h))
commons_still commons new rows after s (Err u) h e is = subst (λ (c : List ℕ). AreCommon c after) (sym e) (subst (AreCommon (with_common commons (length rows) s.sign)) (sym is) (commons_fewer commons rows s.sign h))

pub none_common : AreCommon [] []
none_common j = none_taken (has_common (slice_index [] j)) 8 (j * 8)

-- a chunk that is found or not
pub found_in : (t : Signed → Bool) (k to : ℕ) (rows : List Signed) → k < to → list_any t (chunk k rows) ≡ true → list_any t (between k to rows) ≡ true
found_in t k to rows h e = ap (list_any t) (next k to rows h) ∙ list_any-append t (chunk k rows) (between (k + 1) to rows) ∙ ap (λ b. b || list_any t (between (k + 1) to rows)) e

pub not_in : (t : Signed → Bool) (k to : ℕ) (rows : List Signed) → k < to → list_any t (chunk k rows) ≡ false → list_any t (between (k + 1) to rows) ≡ list_any t (between k to rows)
not_in t k to rows h e = sym (ap (list_any t) (next k to rows h) ∙ list_any-append t (chunk k rows) (between (k + 1) to rows) ∙ ap (λ b. b || list_any t (between (k + 1) to rows)) e)

pub shorter : (k to : ℕ) (rows : List Signed) → k < to → length (between k to rows) ≡ length (chunk k rows) + length (between (k + 1) to rows)
shorter k to rows h = ap length (next k to rows h) ∙ length-append (chunk k rows) (between (k + 1) to rows)

pub chunk_heard : (p q : List Literal) (sign k : ℕ) (rows : List Signed) → AreHeard p q sign rows → AreHeard p q sign (chunk k rows)
chunk_heard p q sign k rows h =
    let behind = (heard_parts p q sign (take (k * 8) rows) (drop (k * 8) rows) (subst (AreHeard p q sign) (sym (take-append-drop (k * 8) rows)) h)).1 in
    (heard_parts p q sign (take 8 (drop (k * 8) rows)) (drop 8 (drop (k * 8) rows)) (subst (AreHeard p q sign) (sym (take-append-drop 8 (drop (k * 8) rows))) behind)).0

-- ---- chunks in another order

module _ {A : Type 0} (t : A → Bool) (rows before behind : List A) (cut : rows ≡ before ++ behind) where
  turned : list_any t rows ≡ (list_any t behind || list_any t before)
  turned = ap (list_any t) cut ∙ list_any-append t before behind ∙ or_comm (list_any t before) (list_any t behind)

  pub covered_behind : (r : Bool) → r ≡ list_any t behind → r ≡ true → r ≡ list_any t rows
  covered_behind r e h = h ∙ sym (turned ∙ ap (λ b. b || list_any t before) (sym e ∙ h))

  pub covered_before : (r s : Bool) → r ≡ list_any t behind → r ≡ false → s ≡ list_any t before → s ≡ list_any t rows
  covered_before r s e h f = f ∙ sym (turned ∙ ap (λ b. b || list_any t before) (sym e ∙ h))

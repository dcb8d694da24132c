-- Rows that ask a field for another value than a row does are passed over: the pairs stay the same.
use Rattle.std.proofs.Common.{◌≡◌, ◌≢◌, ℕ, ◌+◌, ◌%◌, ◌<◌, List, [], ◌∷◌, ◌++◌, Bool, true, false, not, ◌&&◌, ◌||◌, cond, if◌then◌else◌, length, nat_eq, drop, slice_get, slice_index_or, refl, sym, ap, subst, ◌∙◌, ⊎_elim, append_assoc}
use Rattle.std.specs.List.{All, list_any, filter, cons_option}
use Rattle.std.proofs.lemmas.Bool.{and_parts, and_from, or_cases, or_left, or_right, eqb-true, eq-eqb, ne_eqb, true≢false, not_from_false}
use Rattle.std.proofs.lemmas.List.Elements.{filter_map-append}
use Rattle.std.proofs.lemmas.Option.{slice_get_read}
use Rattle.lucid_code.specs.declared.op.Literal.{Literal}
use Rattle.lucid_code.specs.Guards.{opposed, contradict}
use Rattle.lucid_tables.specs.declared.table.Row.{Row}
use Rattle.lucid_merge.specs.declared.near.Near.{Near}
use Rattle.lucid_merge.specs.Product.{clash, pair, pairs_with}
use Rattle.lucid_merge.specs.Standing.{asks, asks_other, may_stand, rows_at, IsNear}
use Rattle.lucid_merge.proofs.Keeping.{head_of}

pub clash_turned : (p q : List Literal) → clash p q ≡ (contradict p q || contradict p p || contradict q q)
clash_turned p q = turned (contradict p p) (contradict p q) (contradict q q)
  where
    turned : (a b c : Bool) → (a || b || c) ≡ (b || a || c)
    turned true true c = refl
    turned true false c = refl
    turned false true c = refl
    turned false false c = refl

-- ---- rows that clash

module _ (field rest : ℕ) where
  opposed_by : (l m : Literal) → asks field rest l ≡ true → asks_other field rest m ≡ true → opposed l m ≡ true
  opposed_by l m h g = by l.equal m.equal lf.0 mf.0
    where
      hs : ((l.equal && nat_eq l.field field) ≡ true) × (nat_eq (l.value % 32) rest ≡ true)
      hs = and_parts (l.equal && nat_eq l.field field) (nat_eq (l.value % 32) rest) h

      gs : ((m.equal && nat_eq m.field field) ≡ true) × (not (nat_eq (m.value % 32) rest) ≡ true)
      gs = and_parts (m.equal && nat_eq m.field field) (not (nat_eq (m.value % 32) rest)) g

      lf : (l.equal ≡ true) × (nat_eq l.field field ≡ true)
      lf = and_parts l.equal (nat_eq l.field field) hs.0

      mf : (m.equal ≡ true) × (nat_eq m.field field ≡ true)
      mf = and_parts m.equal (nat_eq m.field field) gs.0

      same : nat_eq l.field m.field ≡ true
      same = eq-eqb l.field m.field (eqb-true l.field field lf.1 ∙ sym (eqb-true m.field field mf.1))

      other : l.value ≢ m.value
      other e = true≢false (sym gs.1 ∙ ap not (ap (λ v. nat_eq (v % 32) rest) (sym e) ∙ hs.1))

      by : (t u : Bool) → t ≡ true → u ≡ true → (nat_eq l.field m.field && (if t then (if u then not (nat_eq l.value m.value) else nat_eq l.value m.value) else u && nat_eq l.value m.value)) ≡ true
      by true true e f = and_from (nat_eq l.field m.field) (not (nat_eq l.value m.value)) same (not_from_false (nat_eq l.value m.value) (ne_eqb l.value m.value other))
      by true false e f = absurd (true≢false (sym f))
      by false u e f = absurd (true≢false (sym e))

  is_opposed : (l : Literal) (q : List Literal) → asks field rest l ≡ true → list_any (asks_other field rest) q ≡ true → list_any (opposed l) q ≡ true
  is_opposed l [] h g = absurd (true≢false (sym g))
  is_opposed l (m ∷ q) h g = ⊎_elim (λ e. or_left (opposed l m) (list_any (opposed l) q) (opposed_by l m h e)) (λ e. or_right (opposed l m) (list_any (opposed l) q) (is_opposed l q h e))
      (or_cases (asks_other field rest m) (list_any (asks_other field rest) q) g)

  contradicts : (p q : List Literal) → list_any (asks field rest) p ≡ true → list_any (asks_other field rest) q ≡ true → contradict p q ≡ true
  contradicts [] q h g = absurd (true≢false (sym h))
  contradicts (l ∷ p) q h g = ⊎_elim (λ e. or_left (list_any (opposed l) q) (contradict p q) (is_opposed l q e g)) (λ e. or_right (list_any (opposed l) q) (contradict p q) (contradicts p q e g))
      (or_cases (asks field rest l) (list_any (asks field rest) p) h)

  clashes : (a b : Row) → list_any (asks field rest) a.pattern ≡ true → list_any (asks_other field rest) b.pattern ≡ true → clash a.pattern b.pattern ≡ true
  clashes a b h g =
      clash_turned a.pattern b.pattern
      ∙ ap (λ t. t || contradict a.pattern a.pattern || contradict b.pattern b.pattern) (contradicts a.pattern b.pattern h g)

  -- the rows that are compatible with a row give all its pairs
  pub near_pairs : (a : Row) (rows : List Row) → list_any (asks field rest) a.pattern ≡ true → pairs_with a (filter (may_stand field rest) rows) ≡ pairs_with a rows
  near_pairs a [] h = refl
  near_pairs a (b ∷ rows) h = by (list_any (asks_other field rest) b.pattern) refl (near_pairs a rows h)
    where
      by : (t : Bool) → list_any (asks_other field rest) b.pattern ≡ t → pairs_with a (filter (may_stand field rest) rows) ≡ pairs_with a rows →
          pairs_with a (cond (not t) (b ∷ filter (may_stand field rest) rows) (filter (may_stand field rest) rows)) ≡ pairs_with a (b ∷ rows)
      by true e more = more ∙ sym (ap (λ t. if t then pairs_with a rows else pair a b ∷ pairs_with a rows) (clashes a b h e))
      by false e more = ap (λ l. if clash a.pattern b.pattern then l else pair a b ∷ l) more

pub item_near : (rows : List Row) (near : List Near) (i : ℕ) (n : Near) → All (IsNear rows) near → i < length near → n ≡ slice_index_or near i n → IsNear rows n
item_near rows near i n all there is = subst (IsNear rows) (sym is) (all i n there)

-- ---- the places of rows that pass a test

module _ (t : Row → Bool) (rows : List Row) (places : List ℕ) (i : ℕ) (row : Row) (there : i < length rows) (is : row ≡ slice_index_or rows i row)
    (left : rows_at rows places ++ filter t (drop i rows) ≡ filter t rows) where
  cut : filter t (drop i rows) ≡ cond (t row) (row ∷ filter t (drop (i + 1) rows)) (filter t (drop (i + 1) rows))
  cut = ap (filter t) (head_of i rows row there is)

  pub placed : t row ≡ true → rows_at rows (places ++ i ∷ []) ++ filter t (drop (i + 1) rows) ≡ filter t rows
  placed e =
      ap (λ l. l ++ filter t (drop (i + 1) rows)) (filter_map-append (slice_get rows) places (i ∷ []) ∙ ap (λ o. rows_at rows places ++ cons_option o []) (slice_get_read rows (length rows) i row refl there is))
      ∙ append_assoc (rows_at rows places) (row ∷ []) (filter t (drop (i + 1) rows))
      ∙ ap (λ l. rows_at rows places ++ l) (sym (cut ∙ ap (λ b. cond b (row ∷ filter t (drop (i + 1) rows)) (filter t (drop (i + 1) rows))) e))
      ∙ left

  pub passed : t row ≡ false → rows_at rows places ++ filter t (drop (i + 1) rows) ≡ filter t rows
  passed e = ap (λ l. rows_at rows places ++ l) (sym (cut ∙ ap (λ b. cond b (row ∷ filter t (drop (i + 1) rows)) (filter t (drop (i + 1) rows))) e)) ∙ left

-- A table that refuses some patterns of a shape refuses the shape, if each of the others has a literal that neither the table nor those have.
use Rattle.std.proofs.Common.{◌≡◌, ℕ, suc, ◌≤◌, List, [], ◌∷◌, ◌++◌, Bool, true, false, ◌&&◌, ◌||◌, inr, if◌then◌else◌, cond, length, refl, sym, ap, ap₂, ◌∙◌, ⊎_elim, append-nil, arith}
use Rattle.std.specs.List.{filter, list_all, list_any}
use Rattle.std.proofs.lemmas.Bool.{and_parts, and_from, or_cases, or_left, or_right, true≢false, false_from_ne_true}
use Rattle.std.proofs.lemmas.List.Elements.{filter-append}
use Rattle.lucid_code.specs.declared.op.Literal.{Literal}
use Rattle.lucid_tables.specs.declared.table.Row.{Row}
use Rattle.lucid_merge.specs.Product.{is_same, has, union, pair, default, clash, pairs_with, pairs, includes, keep, kept_of, product}
use Rattle.lucid_merge.specs.RowCounts.{patterns_of}
use Rattle.lucid_merge.proofs.Literals.{same_refl, has_union, included, passes}
use Rattle.lucid_refusals.specs.Refusal.{Refuses, literals_of, is_one, kept_among}
use Rattle.lucid_refusals.proofs.ReadingsLemmas.{listed}

both_ways : (a b : Bool) → (a ≡ true → b ≡ true) → (b ≡ true → a ≡ true) → a ≡ b
both_ways true b f g = sym (f refl)
both_ways false true f g = g refl
both_ways false false f g = refl

filter_shorter : (p : Row → Bool) (rows : List Row) → length (filter p rows) ≤ length rows
filter_shorter p [] = omega arith
filter_shorter p (r ∷ rows) = by (p r) (filter_shorter p rows)
  where
    by : (b : Bool) → length (filter p rows) ≤ length rows → length (cond b (r ∷ filter p rows) (filter p rows)) ≤ suc (length rows)
    by true h = omega (arith, h)
    by false h = omega (arith, h)

-- ---- a test of literals, which all literals of old patterns pass

module _ (t : Literal → Bool) where
  all_from : (p : List Literal) → ((l : Literal) → has p l ≡ true → t l ≡ true) → list_all t p ≡ true
  all_from [] h = refl
  all_from (m ∷ p) h = and_from (t m) (list_all t p) (h m (or_left (is_same m m) (has p m) (same_refl m))) (all_from p (λ l n. h l (or_right (is_same l m) (has p l) n)))

  all_union : (p q : List Literal) → list_all t (union p q) ≡ (list_all t p && list_all t q)
  all_union p q = both_ways (list_all t (union p q)) (list_all t p && list_all t q)
      (λ h. and_from (list_all t p) (list_all t q)
      (all_from p (λ l n. passes t (union p q) l h (has_union p q l ∙ or_left (has p l) (has q l) n)))
      (all_from q (λ l n. passes t (union p q) l h (has_union p q l ∙ or_right (has p l) (has q l) n))))
      (λ h. let parts = and_parts (list_all t p) (list_all t q) h in all_from (union p q) (λ l n. ⊎_elim
      (λ (e : has p l ≡ true). passes t p l parts.0 e)
      (λ (e : has q l ≡ true). passes t q l parts.1 e)
      (or_cases (has p l) (has q l) (sym (has_union p q l) ∙ n))))

  abbrev old : Row → Bool
  old r = list_all t r.pattern

  old_pair : (x b : Row) (d : Bool) → old x ≡ true → old b ≡ d → old (pair x b) ≡ d
  old_pair x b d o e = all_union x.pattern b.pattern ∙ ap (λ (z : Bool). z && list_all t b.pattern) o ∙ e

  -- an old row includes old ones alone
  covered : (m : Row) (ks : List Row) → old m ≡ true → list_any (λ (k : Row). includes m.pattern k.pattern) (filter old ks) ≡ list_any (λ (k : Row). includes m.pattern k.pattern) ks
  covered m [] o = refl
  covered m (k ∷ ks) o = by (old k) refl (covered m ks o)
    where
      f : Row → Bool
      f = λ (k : Row). includes m.pattern k.pattern

      by : (b : Bool) → old k ≡ b → list_any f (filter old ks) ≡ list_any f ks → list_any f (cond b (k ∷ filter old ks) (filter old ks)) ≡ (f k || list_any f ks)
      by true e rest = ap (λ (z : Bool). f k || z) rest
      by false e rest =
          let apart : f k ≡ false = false_from_ne_true (f k) (λ i. true≢false (sym (all_from k.pattern (λ l n. passes t m.pattern l o (included m.pattern k.pattern i l n))) ∙ e)) in
          rest ∙ ap (λ (z : Bool). z || list_any f ks) (sym apart)

  keep_old : (ks : List Row) (m : Row) → old m ≡ true → filter old (keep ks m) ≡ keep (filter old ks) m
  keep_old ks m o = by (list_any (λ (k : Row). includes m.pattern k.pattern) ks) (list_any (λ (k : Row). includes m.pattern k.pattern) (filter old ks)) (sym (covered m ks o))
    where
      by : (b c : Bool) → b ≡ c → filter old (if b then ks else ks ++ m ∷ []) ≡ (if c then filter old ks else filter old ks ++ m ∷ [])
      by true true e = refl
      by true false e = absurd (true≢false e)
      by false true e = absurd (true≢false (sym e))
      by false false e = filter-append old ks (m ∷ []) ∙ ap (λ (z : Bool). filter old ks ++ cond z (m ∷ []) []) o

  keep_new : (ks : List Row) (m : Row) → old m ≡ false → filter old (keep ks m) ≡ filter old ks
  keep_new ks m o = by (list_any (λ (k : Row). includes m.pattern k.pattern) ks)
    where
      by : (b : Bool) → filter old (if b then ks else ks ++ m ∷ []) ≡ filter old ks
      by true = refl
      by false = filter-append old ks (m ∷ []) ∙ ap (λ (z : Bool). filter old ks ++ cond z (m ∷ []) []) o ∙ append-nil (filter old ks)

  kept_old : (rows ks : List Row) → filter old (kept_of ks rows) ≡ kept_of (filter old ks) (filter old rows)
  kept_old [] ks = refl
  kept_old (m ∷ rows) ks = kept_old rows (keep ks m) ∙ by (old m) refl
    where
      by : (b : Bool) → old m ≡ b → kept_of (filter old (keep ks m)) (filter old rows) ≡ kept_of (filter old ks) (cond b (m ∷ filter old rows) (filter old rows))
      by true e = ap (λ (x : List Row). kept_of x (filter old rows)) (keep_old ks m e)
      by false e = ap (λ (x : List Row). kept_of x (filter old rows)) (keep_new ks m e)

  with_old : (x : Row) (bs : List Row) → old x ≡ true → filter old (pairs_with x bs) ≡ pairs_with x (filter old bs)
  with_old x [] o = refl
  with_old x (b ∷ bs) o = by (clash x.pattern b.pattern) (old b) refl refl (with_old x bs o)
    where
      made : List Row
      made = pairs_with x bs

      fewer : List Row
      fewer = pairs_with x (filter old bs)

      by : (c d : Bool) → clash x.pattern b.pattern ≡ c → old b ≡ d → filter old made ≡ fewer → filter old (cond c made (pair x b ∷ made)) ≡ pairs_with x (cond d (b ∷ filter old bs) (filter old bs))
      by true true e f rest = rest ∙ ap (λ (z : Bool). cond z fewer (pair x b ∷ fewer)) (sym e)
      by true false e f rest = rest
      by false true e f rest = ap (λ (z : Bool). cond z (pair x b ∷ filter old made) (filter old made)) (old_pair x b true o f) ∙ ap (λ (l : List Row). pair x b ∷ l) rest ∙ ap (λ (z : Bool). cond z fewer (pair x b ∷ fewer)) (sym e)
      by false false e f rest = ap (λ (z : Bool). cond z (pair x b ∷ filter old made) (filter old made)) (old_pair x b false o f) ∙ rest

  abbrev AreOld : List Row → Type 0
  AreOld [] = Unit {0}
  AreOld (r ∷ a) = (old r ≡ true) × AreOld a

  pairs_old : (a bs : List Row) → AreOld a → filter old (pairs a bs) ≡ pairs a (filter old bs)
  pairs_old [] bs o = with_old default bs refl
  pairs_old (x ∷ a) bs o =
      filter-append old (pairs_with x (bs ++ default ∷ [])) (pairs a bs)
      ∙ ap₂ (λ (u v : List Row). u ++ v) (with_old x (bs ++ default ∷ []) o.0 ∙ ap (pairs_with x) (filter-append old bs (default ∷ []))) (pairs_old a bs o.1)

  product_old : (a b : List Row) → AreOld a → filter old (product a b) ≡ product a (filter old b)
  unfolding product
  product_old a b o = kept_old (pairs a b) [] ∙ ap (kept_of []) (pairs_old a b o)

  fewer_rows : (a b : List Row) → AreOld a → length (product a (filter old b)) ≤ length (product a b)
  fewer_rows a b o = omega (arith, ap (λ (rows : List Row). length rows) (product_old a b o), filter_shorter old (product a b))

  all_old : (a : List Row) → ((l : Literal) → list_any (λ p. has p l) (patterns_of a) ≡ true → t l ≡ true) → AreOld a
  all_old [] h = tt
  all_old (r ∷ a) h = (
    all_from r.pattern (λ l n. h l (or_left (has r.pattern l) (list_any (λ p. has p l) (patterns_of a)) n)),
    all_old a (λ l n. h l (or_right (has r.pattern l) (list_any (λ p. has p l) (patterns_of a)) n)),
  )

  patterns_old : (b : List Row) → patterns_of (filter old b) ≡ filter (list_all t) (patterns_of b)
  patterns_old [] = refl
  patterns_old (r ∷ b) = by (old r) (patterns_old b)
    where
      by : (c : Bool) → patterns_of (filter old b) ≡ filter (list_all t) (patterns_of b) → patterns_of (cond c (r ∷ filter old b) (filter old b)) ≡ cond c (r.pattern ∷ filter (list_all t) (patterns_of b)) (filter (list_all t) (patterns_of b))
      by true e = ap (λ (l : List (List Literal)). r.pattern ∷ l) e
      by false e = e

-- a table that refuses the patterns of some literals, with its own, refuses all
pub refuses_more : (rows : ℕ) (patterns : List (List Literal)) (literals more : List Literal) (shape kept : List (List Literal)) → literals ≡ literals_of patterns → kept ≡ kept_among literals more shape → Refuses rows patterns kept → Refuses rows patterns shape
refuses_more rows patterns literals more shape kept g k refuses a b e f =
    let t = is_one literals more in
    let own : AreOld t a = all_old t a (λ l n. or_left (has literals l) (has more l) (ap (λ (ls : List Literal). has ls l) g ∙ listed patterns [] l (inr (ap (λ (ps : List (List Literal)). list_any (λ p. has p l) ps) (sym e) ∙ n)))) in
    let fewer : patterns_of (filter (old t) b) ≡ kept = patterns_old t b ∙ ap (filter (list_all t)) f ∙ sym k in
    omega (arith, refuses a (filter (old t) b) e fewer, fewer_rows t a b own)

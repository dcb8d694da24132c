-- The partners of a row make all its pairs with a table.
use Rattle.std.proofs.Common.{◌≡◌, ℕ, ◌+◌, ◌<◌, ◌≤◌, List, [], ◌∷◌, ◌++◌, Option, Some, None, Bool, true, false, not, ◌&&◌, ◌||◌, cond, if◌then◌else◌, map, length, drop, slice_get, slice_index_or, refl, sym, ap, ap₂, subst, ◌∙◌, arith, append_assoc, add-one, drop-cons}
use Rattle.std.specs.List.{filter, cons_option}
use Rattle.std.proofs.lemmas.List.Elements.{filter_map-append}
use Rattle.std.proofs.lemmas.Option.{slice_get-get_or, same_Some, none-some}
use Rattle.lucid_code.specs.declared.op.Literal.{Literal}
use Rattle.lucid_code.specs.Guards.{contradict}
use Rattle.lucid_tables.specs.declared.table.Row.{Row}
use Rattle.lucid_merge.specs.Offers.{Offered}
use Rattle.lucid_merge.specs.Partners.{goes_with, is_partner, HaveAllPairs, ArePartners}
use Rattle.lucid_merge.specs.Product.{clash, default, pair, pairs_with, keep, kept_of}
use Rattle.lucid_merge.specs.Standing.{rows_at}
use Rattle.lucid_merge.proofs.Keeping.{kept_longer, kept_append}

-- ---- positions

pub place_more : (rows : List Row) (all : List ℕ) (i : ℕ) → i < length rows → rows_at rows all ++ drop i rows ≡ rows → rows_at rows (all ++ i ∷ []) ++ drop (i + 1) rows ≡ rows
place_more rows all i there left =
    ap (λ l. l ++ drop (i + 1) rows) (filter_map-append (slice_get rows) all (i ∷ []) ∙ ap (λ o. rows_at rows all ++ cons_option o []) (slice_get-get_or rows i default there))
    ∙ append_assoc (rows_at rows all) (slice_index_or rows i default ∷ []) (drop (i + 1) rows)
    ∙ ap (λ l. rows_at rows all ++ l) (sym (drop-cons rows i default there ∙ ap (λ n. slice_index_or rows i default ∷ drop n rows) (sym (add-one i))))
    ∙ left

-- ---- pairs

module _ (a : Row) (alone : contradict a.pattern a.pattern ≡ false) (rows : List Row) where
  clash_is : (b : Row) → clash a.pattern b.pattern ≡ (contradict a.pattern b.pattern || contradict b.pattern b.pattern)
  clash_is b = ap (λ t. t || contradict a.pattern b.pattern || contradict b.pattern b.pattern) alone

  chosen : (i : ℕ) (found : List ℕ) (rest : List Row) (b : Row) → slice_get rows i ≡ Some b → map (pair a) (rows_at rows found) ≡ pairs_with a rest → (x y : Bool) →
      map (pair a) (rows_at rows (cond (not x && not y) (i ∷ found) found)) ≡ (if x || y then pairs_with a rest else pair a b ∷ pairs_with a rest)
  chosen i found rest b e more true y = more
  chosen i found rest b e more false true = more
  chosen i found rest b e more false false = ap (λ o. map (pair a) (cons_option o (rows_at rows found))) e ∙ ap (λ l. pair a b ∷ l) more

  one_more : (i : ℕ) (found : List ℕ) (rest : List Row) (o : Option Row) → slice_get rows i ≡ o → map (pair a) (rows_at rows found) ≡ pairs_with a rest →
      map (pair a) (rows_at rows (cond (goes_with a.pattern o) (i ∷ found) found)) ≡ pairs_with a (cons_option o rest)
  one_more i found rest None e more = more
  one_more i found rest (Some b) e more =
      chosen i found rest b e more (contradict a.pattern b.pattern) (contradict b.pattern b.pattern)
      ∙ sym (ap (λ t. if t then pairs_with a rest else pair a b ∷ pairs_with a rest) (clash_is b))

  pub partner_pairs : (places : List ℕ) → map (pair a) (rows_at rows (filter (is_partner rows a.pattern) places)) ≡ pairs_with a (rows_at rows places)
  partner_pairs [] = refl
  partner_pairs (i ∷ places) = one_more i (filter (is_partner rows a.pattern) places) (rows_at rows places) (slice_get rows i) refl (partner_pairs places)

pub none_pairs : (a : Row) → contradict a.pattern a.pattern ≡ true → (rows : List Row) → pairs_with a rows ≡ []
none_pairs a h [] = refl
none_pairs a h (b ∷ rows) =
    ap (λ t. if t || contradict a.pattern b.pattern || contradict b.pattern b.pattern then pairs_with a rows else pair a b ∷ pairs_with a rows) h
    ∙ none_pairs a h rows

-- a row that doesn't contradict itself has a pair with the default
pub default_pair : (a : Row) → contradict a.pattern a.pattern ≡ false → pairs_with a (default ∷ []) ≡ pair a default ∷ []
default_pair a h = ap (λ t. if t then [] else pair a default ∷ []) (clash_is a h [] default ∙ none a.pattern)
  where
    none : (p : List Literal) → (contradict p [] || false) ≡ false
    none [] = refl
    none (l ∷ p) = none p

-- ---- what the partners of a row are good for

pub of_partners : (a : Row) (self rows : List Row) (p : List Literal) (found places : List ℕ) → self ≡ rows → p ≡ a.pattern → found ≡ filter (is_partner rows p) places → length found ≤ length places →
    contradict a.pattern a.pattern ≡ false → HaveAllPairs a rows places → ArePartners a self (Some found)
of_partners a self rows p found places s e f few alone all = (
  alone,
  ap (λ (xs : List Row). map (pair a) (rows_at xs found)) s
      ∙ ap (λ (xs : List ℕ). map (pair a) (rows_at rows xs)) (f ∙ ap (λ (l : List Literal). filter (is_partner rows l) places) e)
      ∙ partner_pairs a alone rows places ∙ all.0 ∙ ap (pairs_with a) (sym s),
  omega (arith, few, all.1, ap length s),
)

module _ (a : Row) (rows : List Row) where
  pub stands : (places : List ℕ) (o : Option (List ℕ)) → ArePartners a rows o → o ≡ Some places → contradict a.pattern a.pattern ≡ false
  stands places o p e = by o e p
    where
      by : (o : Option (List ℕ)) → o ≡ Some places → ArePartners a rows o → contradict a.pattern a.pattern ≡ false
      by None e p = absurd (none-some places e)
      by (Some other) e p = p.0

  pub all_offered : (own : List Row) (places list : List ℕ) (o : Option (List ℕ)) → ArePartners a rows o → o ≡ Some places → own ≡ rows → list ≡ places → map (pair a) (rows_at own list) ≡ pairs_with a rows
  all_offered own places list o p e r l = ap₂ (λ (xs : List Row) (ys : List ℕ). map (pair a) (rows_at xs ys)) r l ∙ by o e p
    where
      by : (o : Option (List ℕ)) → o ≡ Some places → ArePartners a rows o → map (pair a) (rows_at rows places) ≡ pairs_with a rows
      by None e p = absurd (none-some places e)
      by (Some other) e p = ap (λ (ys : List ℕ). map (pair a) (rows_at rows ys)) (sym (same_Some other places e)) ∙ p.1

-- a row that contradicts itself has no pairs
pub none_offered : (most : ℕ) (kept : List Row) (a : Row) (own rows : List Row) (o : Option (List ℕ)) → ArePartners a own o → o ≡ None → length kept ≤ most → Offered most kept (kept_of kept (pairs_with a rows)) true
none_offered most kept a own rows o p e few =
    let is : kept ≡ kept_of kept (pairs_with a rows) = ap (kept_of kept) (sym (none_pairs a (by o e p) rows)) in
    (is, subst (λ w. length w ≤ most) is few)
  where
    by : (o : Option (List ℕ)) → o ≡ None → ArePartners a own o → contradict a.pattern a.pattern ≡ true
    by None e p = p
    by (Some places) e p = absurd (none-some places (sym e))

pub last_kept : (mid : List Row) (a last : Row) → last ≡ default → contradict a.pattern a.pattern ≡ false → keep mid (pair a last) ≡ kept_of mid (pairs_with a (last ∷ []))
last_kept mid a last e h =
    ap (λ (l : Row). keep mid (pair a l)) e ∙ ap (kept_of mid) (sym (default_pair a h)) ∙ ap (λ (l : Row). kept_of mid (pairs_with a (l ∷ []))) (sym e)

-- ---- a row with those at some positions

module _ (most i : ℕ) (kept now whole : List Row) (a : Row) (rows : List Row) (places : List ℕ) (there : i < length places) (left : kept_of kept (map (pair a) (rows_at rows (drop i places))) ≡ whole) where
  abbrev this : List Row
  this = rows_at rows (slice_index_or places i 0 ∷ [])

  abbrev others : List Row
  others = rows_at rows (drop (i + 1) places)

  map_append : (xs ys : List Row) → map (pair a) (xs ++ ys) ≡ map (pair a) xs ++ map (pair a) ys
  map_append [] ys = refl
  map_append (x ∷ xs) ys = ap (λ l. pair a x ∷ l) (map_append xs ys)

  behind : whole ≡ kept_of (kept_of kept (map (pair a) this)) (map (pair a) others)
  behind =
      sym left
      ∙ ap (λ d. kept_of kept (map (pair a) (rows_at rows d))) (drop-cons places i 0 there ∙ ap (λ n. slice_index_or places i 0 ∷ drop n places) (sym (add-one i)))
      ∙ ap (λ l. kept_of kept (map (pair a) l)) (filter_map-append (slice_get rows) (slice_index_or places i 0 ∷ []) (drop (i + 1) places))
      ∙ ap (kept_of kept) (map_append this others)
      ∙ kept_append (map (pair a) this) (map (pair a) others) kept

  pub place_passes : Offered most now (kept_of kept (map (pair a) this)) false → Offered most now whole false
  place_passes o = subst (λ w. most < length w) (sym behind) (omega (arith, o, kept_longer (map (pair a) others) (kept_of kept (map (pair a) this))))

  pub place_goes : Offered most now (kept_of kept (map (pair a) this)) true → kept_of now (map (pair a) others) ≡ whole
  place_goes o = ap (λ k. kept_of k (map (pair a) others)) o.0 ∙ sym behind

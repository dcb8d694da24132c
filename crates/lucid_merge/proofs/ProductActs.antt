-- A product has the effect of both its tables.
use Rattle.std.proofs.Common.{◌≡◌, ℕ, List, [], ◌∷◌, ◌++◌, Bool, true, false, ◌&&◌, ◌||◌, ◌⊎◌, inl, inr, if◌then◌else◌, refl, sym, ap, ap₂, ◌∙◌, ⊎_elim, append-nil, append_assoc}
use Rattle.std.specs.List.{AllByRecursion, list_any, fold, flat_map}
use Rattle.std.proofs.lemmas.Bool.{and_parts, and_from, or_cases, true≢false, false_from_ne_true, cond_both}
use Rattle.std.proofs.lemmas.List.Folds.{list_all-append}
use Rattle.lucid_code.specs.declared.op.Literal.{Literal}
use Rattle.lucid_code.specs.Guards.{Fields, holds, all_hold, contradict}
use Rattle.lucid_tables.specs.declared.table.Row.{Row}
use Rattle.lucid_tables.specs.Rows.{matches, acts}
use Rattle.lucid_tables.proofs.Swaps.{contradict_never}
use Rattle.lucid_merge.proofs.Literals.{literal_is}
use Rattle.lucid_merge.specs.Laws.{Bracketing, one, two, tables_of, product_of, ProductsAct}
use Rattle.lucid_merge.specs.Product.{is_same, has, with_literal, union, pair, default, clash, pairs_with, pairs, includes, keep, kept_of, product}

-- ---- patterns

and_true : (b : Bool) → (b && true) ≡ b
and_true true = refl
and_true false = refl

and_assoc : (a b c : Bool) → (a && (b && c)) ≡ ((a && b) && c)
and_assoc true b c = refl
and_assoc false b c = refl

same_holds : (fields : Fields) (l m : Literal) → is_same l m ≡ true → holds fields m ≡ holds fields l
same_holds fields l m h = ap (holds fields) (sym (literal_is l m h))

had_holds : (fields : Fields) (l : Literal) (p : List Literal) → has p l ≡ true → all_hold fields p ≡ true → holds fields l ≡ true
had_holds fields l [] h m = absurd (true≢false (sym h))
had_holds fields l (f ∷ p) h m =
    let both = and_parts (holds fields f) (all_hold fields p) m in
    ⊎_elim (λ s. sym (same_holds fields l f s) ∙ both.0) (λ r. had_holds fields l p r both.1) (or_cases (is_same l f) (has p l) h)

included_holds : (fields : Fields) (p q : List Literal) → includes p q ≡ true → all_hold fields p ≡ true → all_hold fields q ≡ true
included_holds fields p [] h m = refl
included_holds fields p (l ∷ q) h m =
    let both = and_parts (has p l) (includes p q) h in
    and_from (holds fields l) (all_hold fields q) (had_holds fields l p both.0 m) (included_holds fields p q both.1 m)

pushed_holds : (fields : Fields) (p : List Literal) (l : Literal) → all_hold fields (p ++ l ∷ []) ≡ (all_hold fields p && holds fields l)
pushed_holds fields p l = list_all-append (holds fields) p (l ∷ []) ∙ ap (λ b. all_hold fields p && b) (and_true (holds fields l))

-- a literal that the list has already
held : (a b : Bool) → (a ≡ true → b ≡ true) → a ≡ (a && b)
held true b h = sym (h refl)
held false b h = refl

with_holds : (fields : Fields) (p : List Literal) (l : Literal) → all_hold fields (with_literal p l) ≡ (all_hold fields p && holds fields l)
with_holds fields p l = cond_both (has p l) p (p ++ l ∷ []) (λ u. all_hold fields u ≡ (all_hold fields p && holds fields l))
    (λ h. held (all_hold fields p) (holds fields l) (had_holds fields l p h)) (λ h. pushed_holds fields p l)

added_holds : (fields : Fields) (q p : List Literal) → all_hold fields (fold with_literal p q) ≡ (all_hold fields p && all_hold fields q)
added_holds fields [] p = sym (and_true (all_hold fields p))
added_holds fields (l ∷ q) p =
    added_holds fields q (with_literal p l) ∙ ap (λ b. b && all_hold fields q) (with_holds fields p l) ∙ sym (and_assoc (all_hold fields p) (holds fields l) (all_hold fields q))

union_holds : (fields : Fields) (p q : List Literal) → all_hold fields (union p q) ≡ (all_hold fields p && all_hold fields q)
union_holds fields p q = added_holds fields q (fold with_literal [] p) ∙ ap (λ b. b && all_hold fields q) (added_holds fields p [])

-- ---- pairs

-- a row that does not match, with each row of a table
pairs_miss : (fields : Fields) (a : Row) (bs rest : List Row) → matches fields a ≡ false → acts fields (pairs_with a bs ++ rest) ≡ acts fields rest
pairs_miss fields a [] rest h = refl
pairs_miss fields a (b ∷ bs) rest h = cond_both (clash a.pattern b.pattern) (pairs_with a bs) (pair a b ∷ pairs_with a bs) (λ u. acts fields (u ++ rest) ≡ acts fields rest)
    (λ e. pairs_miss fields a bs rest h)
    (λ e. ap (λ t. if t then a.ops ++ b.ops else acts fields (pairs_with a bs ++ rest)) (union_holds fields a.pattern b.pattern ∙ ap (λ t. t && matches fields b) h) ∙ pairs_miss fields a bs rest h)

clash_never : (fields : Fields) (p q : List Literal) → clash p q ≡ true → all_hold fields p ≡ true → all_hold fields q ≡ true → ⊥
clash_never fields p q h m n = ⊎_elim
    (λ e. ⊎_elim (λ f. contradict_never fields p p f m m) (λ f. contradict_never fields p q f m n) (or_cases (contradict p p) (contradict p q) e))
    (λ e. contradict_never fields q q e n n)
    (or_cases (contradict p p || contradict p q) (contradict q q) (ordered (contradict p p) (contradict p q) (contradict q q) h))
  where
    ordered : (a b c : Bool) → (a || b || c) ≡ true → ((a || b) || c) ≡ true
    ordered true b c h = refl
    ordered false b c h = h

no_clash : (fields : Fields) (a : Row) → matches fields a ≡ true → clash a.pattern [] ≡ false
no_clash fields a h = false_from_ne_true (clash a.pattern []) (λ n. clash_never fields a.pattern [] n h refl)

missed : (fields : Fields) (a b : Row) → matches fields a ≡ true → clash a.pattern b.pattern ≡ true → matches fields b ≡ false
missed fields a b h e = false_from_ne_true (matches fields b) (λ n. clash_never fields a.pattern b.pattern e h n)

-- a row that matches, with each row of a table and its default
pairs_hit : (fields : Fields) (a : Row) (bs rest : List Row) → matches fields a ≡ true → acts fields (pairs_with a (bs ++ default ∷ []) ++ rest) ≡ a.ops ++ acts fields bs
pairs_hit fields a [] rest h =
    ap (λ t. acts fields ((if t then [] else pair a default ∷ []) ++ rest)) (no_clash fields a h)
    ∙ ap (λ t. if t then a.ops ++ [] else acts fields rest) (union_holds fields a.pattern [] ∙ ap (λ t. t && true) h)
pairs_hit fields a (b ∷ bs) rest h = by (pairs_hit fields a bs rest h)
  where
    by : acts fields (pairs_with a (bs ++ default ∷ []) ++ rest) ≡ a.ops ++ acts fields bs → acts fields (pairs_with a ((b ∷ bs) ++ default ∷ []) ++ rest) ≡ a.ops ++ acts fields (b ∷ bs)
    by again = cond_both (clash a.pattern b.pattern) (pairs_with a (bs ++ default ∷ [])) (pair a b ∷ pairs_with a (bs ++ default ∷ [])) (λ u. acts fields (u ++ rest) ≡ a.ops ++ acts fields (b ∷ bs))
        (λ e. again ∙ ap (λ t. a.ops ++ (if t then b.ops else acts fields bs)) (sym (missed fields a b h e)))
        (λ e. ap (λ t. if t then a.ops ++ b.ops else acts fields (pairs_with a (bs ++ default ∷ []) ++ rest)) (union_holds fields a.pattern b.pattern ∙ ap (λ t. t && matches fields b) h) ∙ either (matches fields b))
      where
        either : (t : Bool) → (if t then a.ops ++ b.ops else acts fields (pairs_with a (bs ++ default ∷ []) ++ rest)) ≡ a.ops ++ (if t then b.ops else acts fields bs)
        either true = refl
        either false = again

default_acts : (fields : Fields) (bs : List Row) → acts fields (pairs_with default bs) ≡ acts fields bs
default_acts fields [] = refl
default_acts fields (b ∷ bs) = by (default_acts fields bs)
  where
    by : acts fields (pairs_with default bs) ≡ acts fields bs → acts fields (pairs_with default (b ∷ bs)) ≡ acts fields (b ∷ bs)
    by again = cond_both (clash [] b.pattern) (pairs_with default bs) (pair default b ∷ pairs_with default bs) (λ u. acts fields u ≡ acts fields (b ∷ bs))
        (λ e. again ∙ ap (λ t. if t then b.ops else acts fields bs) (sym (missed fields default b refl e)))
        (λ e. ap₂ (λ (t : Bool) (l : List ℕ). if t then b.ops else l) (union_holds fields [] b.pattern) again)

pairs_act : (fields : Fields) (rows bs : List Row) → acts fields (pairs rows bs) ≡ acts fields rows ++ acts fields bs
pairs_act fields [] bs = default_acts fields bs
pairs_act fields (a ∷ rows) bs = by (pairs_act fields rows bs) (matches fields a) refl
  where
    by : acts fields (pairs rows bs) ≡ acts fields rows ++ acts fields bs → (t : Bool) → matches fields a ≡ t → acts fields (pairs_with a (bs ++ default ∷ []) ++ pairs rows bs) ≡ (if matches fields a then a.ops else acts fields rows) ++ acts fields bs
    by again true h = pairs_hit fields a bs (pairs rows bs) h ∙ ap (λ t. (if t then a.ops else acts fields rows) ++ acts fields bs) (sym h)
    by again false h = pairs_miss fields a (bs ++ default ∷ []) (pairs rows bs) h ∙ again ∙ ap (λ t. (if t then a.ops else acts fields rows) ++ acts fields bs) (sym h)

-- ---- rows that are dropped

-- no row that was kept matches
abbrev Missed : Fields → List Row → Type 0
Missed fields rows = AllByRecursion (λ (k : Row). matches fields k ≡ false) rows

covered_misses : (fields : Fields) (r : Row) (kept : List Row) → list_any (λ (k : Row). includes r.pattern k.pattern) kept ≡ true → Missed fields kept → matches fields r ≡ false
covered_misses fields r [] h m = absurd (true≢false (sym h))
covered_misses fields r (k ∷ kept) h m = ⊎_elim
    (λ s. false_from_ne_true (matches fields r) (λ y. true≢false (sym (included_holds fields r.pattern k.pattern s y) ∙ m.0)))
    (λ s. covered_misses fields r kept s m.1)
    (or_cases (includes r.pattern k.pattern) (list_any (λ (j : Row). includes r.pattern j.pattern) kept) h)

-- the rows kept decide, or none of them matches
abbrev Front : Fields → List Row → Type 0
Front fields kept = ((xs ys : List Row) → acts fields (kept ++ xs) ≡ acts fields (kept ++ ys)) ⊎ (Missed fields kept × ((xs : List Row) → acts fields (kept ++ xs) ≡ acts fields xs))

front : (fields : Fields) (kept : List Row) → Front fields kept
front fields [] = inr (tt, λ xs. refl)
front fields (k ∷ kept) = by (front fields kept) (matches fields k) refl
  where
    by : Front fields kept → (t : Bool) → matches fields k ≡ t → Front fields (k ∷ kept)
    by again true h = inl (λ xs ys. ap (λ t. if t then k.ops else acts fields (kept ++ xs)) h ∙ sym (ap (λ t. if t then k.ops else acts fields (kept ++ ys)) h))
    by (inl e) false h = inl (λ xs ys. ap (λ l. if matches fields k then k.ops else l) (e xs ys))
    by (inr m) false h = inr ((h, m.0), λ xs. ap (λ t. if t then k.ops else acts fields (kept ++ xs)) h ∙ m.1 xs)

skip : (fields : Fields) (kept : List Row) (r : Row) (rest : List Row) → list_any (λ (k : Row). includes r.pattern k.pattern) kept ≡ true → acts fields (kept ++ rest) ≡ acts fields (kept ++ r ∷ rest)
skip fields kept r rest c = by (front fields kept)
  where
    by : Front fields kept → acts fields (kept ++ rest) ≡ acts fields (kept ++ r ∷ rest)
    by (inl e) = e rest (r ∷ rest)
    by (inr m) = m.1 rest ∙ ap (λ t. if t then r.ops else acts fields rest) (sym (covered_misses fields r kept c m.0)) ∙ sym (m.1 (r ∷ rest))

kept_act : (fields : Fields) (rows kept : List Row) → acts fields (kept_of kept rows) ≡ acts fields (kept ++ rows)
kept_act fields [] kept = ap (acts fields) (sym (append-nil kept))
kept_act fields (r ∷ rows) kept =
    kept_act fields rows (keep kept r)
    ∙ cond_both (list_any (λ (k : Row). includes r.pattern k.pattern) kept) kept (kept ++ r ∷ []) (λ u. acts fields (u ++ rows) ≡ acts fields (kept ++ r ∷ rows))
    (λ h. skip fields kept r rows h) (λ h. ap (acts fields) (append_assoc kept (r ∷ []) rows))

-- A product has the effect of both tables.
pub product_acts : (fields : Fields) (a b : List Row) → acts fields (product a b) ≡ acts fields a ++ acts fields b
unfolding product
product_acts fields a b = kept_act fields (pairs a b) [] ∙ pairs_act fields a b

-- ---- several tables

flat_append : (fields : Fields) (xs ys : List (List Row)) → flat_map (acts fields) (xs ++ ys) ≡ flat_map (acts fields) xs ++ flat_map (acts fields) ys
flat_append fields [] ys = refl
flat_append fields (x ∷ xs) ys = ap (λ l. acts fields x ++ l) (flat_append fields xs ys) ∙ sym (append_assoc (acts fields x) (flat_map (acts fields) xs) (flat_map (acts fields) ys))

products_act : (fields : Fields) (tables : Bracketing) → acts fields (product_of tables) ≡ flat_map (acts fields) (tables_of tables)
products_act fields (one rows) = sym (append-nil (acts fields rows))
products_act fields (two first second) =
    product_acts fields (product_of first) (product_of second)
    ∙ ap₂ (λ (xs ys : List ℕ). xs ++ ys) (products_act fields first) (products_act fields second)
    ∙ sym (flat_append fields (tables_of first) (tables_of second))

pub products_do : ProductsAct
products_do = record {
  both = product_acts;
  all = products_act;
  none_before = λ fields rows. product_acts fields [] rows;
  none_behind = λ fields rows. product_acts fields rows [] ∙ append-nil (acts fields rows);
}

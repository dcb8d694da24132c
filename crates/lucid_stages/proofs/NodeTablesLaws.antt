-- A product has at least as many rows as each of its tables, if these are products themselves. So each product on the way to a node's table
-- has at most the rows of a table with that merged into it.
use Rattle.std.proofs.Common.{◌≡◌, ℕ, suc, ◌+◌, ◌≤◌, List, [], ◌∷◌, ◌++◌, Bool, true, false, not, ◌&&◌, ◌||◌, ◌⊎◌, inl, inr, if◌then◌else◌, length, nat_eq, nat_le, refl, sym, ap, ap₂, subst, ◌∙◌, arith, length-append, ⊎_elim}
use Rattle.std.specs.List.{list_any, fold}
use Rattle.std.proofs.lemmas.Bool.{and_from, or_cases, or_left, or_right, true≢false, le-leb, eqb-true, eq-eqb}
use Rattle.lucid_code.specs.declared.op.Literal.{Literal}
use Rattle.lucid_code.specs.Guards.{opposed, contradict}
use Rattle.lucid_tables.specs.declared.table.Row.{Row}
use Rattle.lucid_merge.specs.Product.{is_same, has, union, pair, default, clash, pairs_with, pairs, includes, keep, kept_of, product}
use Rattle.lucid_merge.proofs.Literals.{has_union, included, includes_from, literal_is, same_refl}
use Rattle.lucid_stages.specs.NodeTables.{few_behind, few_on_the_way, merged}

-- ---- patterns

-- A test that no literal of a pattern passes.
any_false : (t : Literal → Bool) (p : List Literal) (l : Literal) → list_any t p ≡ false → has p l ≡ true → t l ≡ false
any_false t [] l a h = absurd (true≢false (sym h))
any_false t (m ∷ p) l a h = by (t m) (any_false t p l) refl
  where
    by : (b : Bool) → (list_any t p ≡ false → has p l ≡ true → t l ≡ false) → t m ≡ b → t l ≡ false
    by true more e = absurd (true≢false (sym (or_left (t m) (list_any t p) e) ∙ a))
    by false more e = ⊎_elim (λ s. ap t (literal_is l m s) ∙ e) (λ i. more (sym (ap (λ b. b || list_any t p) e) ∙ a) i) (or_cases (is_same l m) (has p l) h)

any_none : (t : Literal → Bool) (p : List Literal) → ((l : Literal) → has p l ≡ true → t l ≡ false) → list_any t p ≡ false
any_none t [] f = refl
any_none t (m ∷ p) f =
    ap (λ b. b || list_any t p) (f m (or_left (is_same m m) (has p m) (same_refl m)))
    ∙ any_none t p (λ l h. f l (or_right (is_same l m) (has p l) h))

calm : (x p q : List Literal) → contradict x x ≡ false → includes x p ≡ true → includes x q ≡ true → contradict p q ≡ false
calm x p q c i j =
    any_none (λ l. list_any (opposed l) q) p (λ l h. any_none (opposed l) q (λ m k.
    any_false (opposed l) x m (any_false (λ n. list_any (opposed n) x) x l c (included x p i l h)) (included x q j m k)))

-- parts of a pattern that does not contradict itself
no_clash : (x p q : List Literal) → contradict x x ≡ false → includes x p ≡ true → includes x q ≡ true → clash p q ≡ false
no_clash x p q c i j = ap₂ (λ (a b : Bool). (a || contradict p q) || b) (calm x p p c i i) (calm x q q c j j) ∙ ap (λ b. b || false) (calm x p q c i j)

includes_self : (p : List Literal) → includes p p ≡ true
includes_self p = includes_from p p (λ l h. h)

through : (p q r : List Literal) → includes p q ≡ true → includes q r ≡ true → includes p r ≡ true
through p q r i j = includes_from p r (λ l h. included p q i l (included q r j l h))

union_first : (p q : List Literal) → includes (union p q) p ≡ true
union_first p q = includes_from (union p q) p (λ l h. has_union p q l ∙ or_left (has p l) (has q l) h)

union_second : (p q : List Literal) → includes (union p q) q ≡ true
union_second p q = includes_from (union p q) q (λ l h. has_union p q l ∙ or_right (has p l) (has q l) h)

includes_union : (x p q : List Literal) → includes x p ≡ true → includes x q ≡ true → includes x (union p q) ≡ true
includes_union x p q i j = includes_from x (union p q) (λ l h. ⊎_elim (included x p i l) (included x q j l) (or_cases (has p l) (has q l) (sym (has_union p q l) ∙ h)))

eq_turned : (m n : ℕ) → nat_eq m n ≡ nat_eq n m
eq_turned m n = by (nat_eq m n) (nat_eq n m) refl refl
  where
    by : (a b : Bool) → nat_eq m n ≡ a → nat_eq n m ≡ b → a ≡ b
    by true true h k = refl
    by true false h k = sym (eq-eqb n m (sym (eqb-true m n h))) ∙ k
    by false true h k = sym h ∙ eq-eqb m n (sym (eqb-true n m k))
    by false false h k = refl

opposed_turned : (l m : Literal) → opposed l m ≡ opposed m l
opposed_turned l m = ap₂ (λ (a b : Bool). a && b) (eq_turned l.field m.field) (signs l.equal m.equal (nat_eq l.value m.value) (nat_eq m.value l.value) (eq_turned l.value m.value))
  where
    signs : (s t v w : Bool) → v ≡ w → (if s then (if t then not v else v) else t && v) ≡ (if t then (if s then not w else w) else s && w)
    signs true true v w e = ap not e
    signs true false v w e = e
    signs false true v w e = e
    signs false false v w e = refl

-- what a union of patterns that do not clash asks for is no contradiction
united : (p q : List Literal) → clash p q ≡ false → contradict (union p q) (union p q) ≡ false
united p q c =
    let outer = or_parts (contradict p p || contradict p q) (contradict q q) c in
    let inner = or_parts (contradict p p) (contradict p q) outer.0 in
    any_none (λ l. list_any (opposed l) (union p q)) (union p q) (λ l h. any_none (opposed l) (union p q) (λ m k. meets inner.0 inner.1 outer.1 l m
    (or_cases (has p l) (has q l) (sym (has_union p q l) ∙ h)) (or_cases (has p m) (has q m) (sym (has_union p q m) ∙ k))))
  where
    or_parts : (a b : Bool) → (a || b) ≡ false → (a ≡ false) × (b ≡ false)
    or_parts true b h = absurd (true≢false h)
    or_parts false b h = (refl, h)

    between : (g h : List Literal) (l m : Literal) → contradict g h ≡ false → has g l ≡ true → has h m ≡ true → opposed l m ≡ false
    between g h l m c i j = any_false (opposed l) h m (any_false (λ n. list_any (opposed n) h) g l c i) j

    meets : contradict p p ≡ false → contradict p q ≡ false → contradict q q ≡ false → (l m : Literal) → (has p l ≡ true) ⊎ (has q l ≡ true) → (has p m ≡ true) ⊎ (has q m ≡ true) → opposed l m ≡ false
    meets pp pq qq l m (inl a) (inl b) = between p p l m pp a b
    meets pp pq qq l m (inl a) (inr b) = between p q l m pq a b
    meets pp pq qq l m (inr a) (inl b) = opposed_turned l m ∙ between p q m l pq b a
    meets pp pq qq l m (inr a) (inr b) = between q q l m qq a b

-- ---- rows that others cover

-- A row whose pattern includes that of one of these: it would never decide behind them.
abbrev covered : List Row → Row → Bool
covered kept r = list_any (λ (k : Row). includes r.pattern k.pattern) kept

covered_push : (kept : List Row) (p r : Row) → covered (kept ++ p ∷ []) r ≡ (covered kept r || includes r.pattern p.pattern)
covered_push [] p r = or_none (includes r.pattern p.pattern)
  where
    or_none : (b : Bool) → (b || false) ≡ b
    or_none true = refl
    or_none false = refl
covered_push (k ∷ kept) p r = ap (λ b. includes r.pattern k.pattern || b) (covered_push kept p r) ∙ or_assoc (includes r.pattern k.pattern) (covered kept r) (includes r.pattern p.pattern)
  where
    or_assoc : (a b c : Bool) → (a || (b || c)) ≡ ((a || b) || c)
    or_assoc true b c = refl
    or_assoc false b c = refl

covered_more : (kept : List Row) (p r : Row) → covered kept r ≡ true → covered (kept ++ p ∷ []) r ≡ true
covered_more kept p r h = covered_push kept p r ∙ or_left (covered kept r) (includes r.pattern p.pattern) h

covered_last : (kept : List Row) (p r : Row) → includes r.pattern p.pattern ≡ true → covered (kept ++ p ∷ []) r ≡ true
covered_last kept p r h = covered_push kept p r ∙ or_right (covered kept r) (includes r.pattern p.pattern) h

-- a row that asks for more is covered, too
covered_larger : (kept : List Row) (p r : Row) → includes r.pattern p.pattern ≡ true → covered kept p ≡ true → covered kept r ≡ true
covered_larger [] p r i h = absurd (true≢false (sym h))
covered_larger (k ∷ kept) p r i h = ⊎_elim
    (λ c. or_left (includes r.pattern k.pattern) (covered kept r) (through r.pattern p.pattern k.pattern i c))
    (λ c. or_right (includes r.pattern k.pattern) (covered kept r) (covered_larger kept p r i c))
    (or_cases (includes p.pattern k.pattern) (covered kept p) h)

-- it stays uncovered if the new row asks for something else
stays_free : (kept : List Row) (p r : Row) → covered kept r ≡ false → includes r.pattern p.pattern ≡ false → covered (kept ++ p ∷ []) r ≡ false
stays_free kept p r c i = covered_push kept p r ∙ ap₂ (λ (a b : Bool). a || b) c i

-- ---- tables in which no row asks for all that one before it asks for

abbrev Each : (Row → Type 0) → List Row → Type 0
Each P [] = Unit {0}
Each P (r ∷ rows) = P r × Each P rows

each_from : (P Q : Row → Type 0) → ((r : Row) → P r → Q r) → (rows : List Row) → Each P rows → Each Q rows
each_from P Q f [] e = tt
each_from P Q f (r ∷ rows) e = (f r e.0, each_from P Q f rows e.1)

each_push : (P : Row → Type 0) (rows : List Row) (r : Row) → Each P rows → P r → Each P (rows ++ r ∷ [])
each_push P [] r e h = (h, tt)
each_push P (q ∷ rows) r e h = (e.0, each_push P rows r e.1 h)

-- Each row may match, and none includes the pattern of one before it.
abbrev Apart : List Row → Type 0
Apart [] = Unit {0}
Apart (r ∷ rows) = (contradict r.pattern r.pattern ≡ false) × Each (λ s. includes s.pattern r.pattern ≡ false) rows × Apart rows

apart_push : (rows : List Row) (r : Row) → Apart rows → contradict r.pattern r.pattern ≡ false → covered rows r ≡ false → Apart (rows ++ r ∷ [])
apart_push [] r a c f = (c, tt, tt)
apart_push (q ∷ rows) r a c f =
    (a.0, each_push (λ s. includes s.pattern q.pattern ≡ false) rows r a.1 (or_first f), apart_push rows r a.2 c (or_second f))
  where
    or_first : (includes r.pattern q.pattern || covered rows r) ≡ false → includes r.pattern q.pattern ≡ false
    or_first h = first (includes r.pattern q.pattern) (covered rows r) h
      where
        first : (a b : Bool) → (a || b) ≡ false → a ≡ false
        first true b h = h
        first false b h = refl

    or_second : (includes r.pattern q.pattern || covered rows r) ≡ false → covered rows r ≡ false
    or_second h = second (includes r.pattern q.pattern) (covered rows r) h
      where
        second : (a b : Bool) → (a || b) ≡ false → b ≡ false
        second true b h = absurd (true≢false h)
        second false b h = h

keep_apart : (kept : List Row) (r : Row) → Apart kept → contradict r.pattern r.pattern ≡ false → Apart (keep kept r)
keep_apart kept r a c = by (covered kept r) refl
  where
    by : (b : Bool) → covered kept r ≡ b → Apart (if b then kept else kept ++ r ∷ [])
    by true h = a
    by false h = apart_push kept r a c h

kept_apart : (rows kept : List Row) → Apart kept → Each (λ r. contradict r.pattern r.pattern ≡ false) rows → Apart (kept_of kept rows)
kept_apart [] kept a e = a
kept_apart (r ∷ rows) kept a e = kept_apart rows (keep kept r) (keep_apart kept r a e.0) e.1

pairs_with_calm : (a : Row) (rows : List Row) → Each (λ r. contradict r.pattern r.pattern ≡ false) (pairs_with a rows)
pairs_with_calm a [] = tt
pairs_with_calm a (b ∷ rows) = by (clash a.pattern b.pattern) (pairs_with_calm a rows) refl
  where
    by : (t : Bool) → Each (λ r. contradict r.pattern r.pattern ≡ false) (pairs_with a rows) → clash a.pattern b.pattern ≡ t → Each (λ r. contradict r.pattern r.pattern ≡ false) (if t then pairs_with a rows else pair a b ∷ pairs_with a rows)
    by true more h = more
    by false more h = (united a.pattern b.pattern h, more)

each_append : (P : Row → Type 0) (xs ys : List Row) → Each P xs → Each P ys → Each P (xs ++ ys)
each_append P [] ys e f = f
each_append P (x ∷ xs) ys e f = (e.0, each_append P xs ys e.1 f)

pairs_calm : (rows bs : List Row) → Each (λ r. contradict r.pattern r.pattern ≡ false) (pairs rows bs)
pairs_calm [] bs = pairs_with_calm default bs
pairs_calm (a ∷ rows) bs =
    each_append (λ r. contradict r.pattern r.pattern ≡ false) (pairs_with a (bs ++ default ∷ [])) (pairs rows bs) (pairs_with_calm a (bs ++ default ∷ [])) (pairs_calm rows bs)

product_is : (a b : List Row) → kept_of [] (pairs a b) ≡ product a b
unfolding product
product_is a b = refl

product_apart : (a b : List Row) → Apart (product a b)
product_apart a b = subst Apart (product_is a b) (kept_apart (pairs a b) [] tt (pairs_calm a b))

folded_apart : (t : List Row) (tables : List (List Row)) → Apart t → Apart (fold product t tables)
folded_apart t [] a = a
folded_apart t (u ∷ tables) a = folded_apart (product t u) tables (product_apart t u)

-- ---- kept rows

keep_longer : (kept : List Row) (r : Row) → length kept ≤ length (keep kept r)
keep_longer kept r = by (covered kept r)
  where
    by : (b : Bool) → length kept ≤ length (if b then kept else kept ++ r ∷ [])
    by true = omega arith
    by false = omega (arith, length-append kept (r ∷ []))

kept_longer : (rows kept : List Row) → length kept ≤ length (kept_of kept rows)
kept_longer [] kept = omega arith
kept_longer (r ∷ rows) kept = omega (arith, keep_longer kept r, kept_longer rows (keep kept r))

kept_append : (xs ys kept : List Row) → kept_of kept (xs ++ ys) ≡ kept_of (kept_of kept xs) ys
kept_append [] ys kept = refl
kept_append (x ∷ xs) ys kept = kept_append xs ys (keep kept x)

with_append : (a : Row) (xs ys : List Row) → pairs_with a (xs ++ ys) ≡ pairs_with a xs ++ pairs_with a ys
with_append a [] ys = refl
with_append a (x ∷ xs) ys = by (clash a.pattern x.pattern) (with_append a xs ys)
  where
    by : (t : Bool) → pairs_with a (xs ++ ys) ≡ pairs_with a xs ++ pairs_with a ys →
        (if t then pairs_with a (xs ++ ys) else pair a x ∷ pairs_with a (xs ++ ys)) ≡ (if t then pairs_with a xs else pair a x ∷ pairs_with a xs) ++ pairs_with a ys
    by true e = e
    by false e = ap (λ l. pair a x ∷ l) e

-- ---- a product has at least the rows of its first table

ne_true : (b c : Bool) → (c ≡ true → b ≡ true) → b ≡ false → c ≡ false
ne_true b true f h = absurd (true≢false (sym (f refl) ∙ h))
ne_true b false f h = refl

union_none : (p : List Literal) → includes p (union p []) ≡ true
union_none p = includes_union p p [] (includes_self p) refl

-- the rows of a block cover no row that does not ask for all that the row of the block asks for
block_leaves : (a s : Row) (xs kept : List Row) → includes s.pattern a.pattern ≡ false → covered kept s ≡ false → covered (kept_of kept (pairs_with a xs)) s ≡ false
block_leaves a s [] kept i c = c
block_leaves a s (x ∷ xs) kept i c =
    by (clash a.pattern x.pattern) (block_leaves a s xs kept i c)
    (block_leaves a s xs (kept ++ pair a x ∷ []) i (stays_free kept (pair a x) s c
    (ne_true (includes s.pattern a.pattern) (includes s.pattern (union a.pattern x.pattern)) (λ h. through s.pattern (union a.pattern x.pattern) a.pattern h (union_first a.pattern x.pattern)) i)))
  where
    now : (u : Bool) → covered (kept_of kept (pairs_with a xs)) s ≡ false → covered (kept_of (kept ++ pair a x ∷ []) (pairs_with a xs)) s ≡ false →
        covered (kept_of (if u then kept else kept ++ pair a x ∷ []) (pairs_with a xs)) s ≡ false
    now true same more = same
    now false same more = more

    by : (t : Bool) → covered (kept_of kept (pairs_with a xs)) s ≡ false → covered (kept_of (kept ++ pair a x ∷ []) (pairs_with a xs)) s ≡ false →
        covered (kept_of kept (if t then pairs_with a xs else pair a x ∷ pairs_with a xs)) s ≡ false
    by true same more = same
    by false same more = now (covered kept (pair a x)) same more

-- the block of an uncovered row has a row, at the latest its pair with the default
block_adds : (a : Row) (xs kept : List Row) → contradict a.pattern a.pattern ≡ false → covered kept a ≡ false → length kept + 1 ≤ length (kept_of kept (pairs_with a (xs ++ default ∷ [])))
block_adds a [] kept c f = by (clash a.pattern []) (no_clash a.pattern a.pattern [] c (includes_self a.pattern) refl)
  where
    now : (u : Bool) → u ≡ false → length kept + 1 ≤ length (if u then kept else kept ++ pair a default ∷ [])
    now true h = absurd (true≢false h)
    now false h = omega (arith, length-append kept (pair a default ∷ []))

    by : (t : Bool) → t ≡ false → length kept + 1 ≤ length (kept_of kept (if t then [] else pair a default ∷ []))
    by true h = absurd (true≢false h)
    by false h = now (covered kept (pair a default)) (ne_true (covered kept a) (covered kept (pair a default)) (covered_larger kept (pair a default) a (union_none a.pattern)) f)
block_adds a (x ∷ xs) kept c f = by (clash a.pattern x.pattern) (block_adds a xs kept c f)
  where
    now : (u : Bool) → length kept + 1 ≤ length (kept_of kept (pairs_with a (xs ++ default ∷ []))) → length kept + 1 ≤ length (kept_of (if u then kept else kept ++ pair a x ∷ []) (pairs_with a (xs ++ default ∷ [])))
    now true m = m
    now false m = omega (arith, length-append kept (pair a x ∷ []), kept_longer (pairs_with a (xs ++ default ∷ [])) (kept ++ pair a x ∷ []))

    by : (t : Bool) → length kept + 1 ≤ length (kept_of kept (pairs_with a (xs ++ default ∷ []))) →
        length kept + 1 ≤ length (kept_of kept (if t then pairs_with a (xs ++ default ∷ []) else pair a x ∷ pairs_with a (xs ++ default ∷ [])))
    by true m = m
    by false m = now (covered kept (pair a x)) m

rows_add : (a b kept : List Row) → Apart a → Each (λ r. covered kept r ≡ false) a → length kept + length a ≤ length (kept_of kept (pairs a b))
rows_add [] b kept p f = omega (arith, kept_longer (pairs_with default b) kept)
rows_add (r ∷ rows) b kept p f =
    subst (λ l. length kept + suc (length rows) ≤ length l) (sym (kept_append (pairs_with r (b ++ default ∷ [])) (pairs rows b) kept))
    (omega (arith, block_adds r b kept p.0 f.0, rows_add rows b (kept_of kept (pairs_with r (b ++ default ∷ []))) p.2 (leaves rows p.1 f.1)))
  where
    leaves : (rest : List Row) → Each (λ s. includes s.pattern r.pattern ≡ false) rest → Each (λ s. covered kept s ≡ false) rest → Each (λ s. covered (kept_of kept (pairs_with r (b ++ default ∷ []))) s ≡ false) rest
    leaves [] i c = tt
    leaves (s ∷ rest) i c = (block_leaves r s (b ++ default ∷ []) kept i.0 c.0, leaves rest i.1 c.1)

all_free : (rows : List Row) → Each (λ r. covered [] r ≡ false) rows
all_free [] = tt
all_free (r ∷ rows) = (refl, all_free rows)

first_fits : (a b : List Row) → Apart a → length a ≤ length (product a b)
first_fits a b p = subst (λ l. length a ≤ length l) (product_is a b) (omega (arith, rows_add a b [] p (all_free a)))

-- ---- and those of its second table

abbrev free : Bool → ℕ
free true = 0
free false = 1

-- the number of these rows that no kept one covers
abbrev uncovered : List Row → List Row → ℕ
uncovered kept [] = 0
uncovered kept (r ∷ rows) = free (covered kept r) + uncovered kept rows

-- those that ask for all that this row asks for are covered
abbrev Settled : Row → List Row → List Row → Type 0
Settled a kept rows = Each (λ r. includes r.pattern a.pattern ≡ true → covered kept r ≡ true) rows

settled_more : (a p : Row) (kept rows : List Row) → Settled a kept rows → Settled a (kept ++ p ∷ []) rows
settled_more a p kept rows s =
    each_from (λ r. includes r.pattern a.pattern ≡ true → covered kept r ≡ true) (λ r. includes r.pattern a.pattern ≡ true → covered (kept ++ p ∷ []) r ≡ true) (λ r f i. covered_more kept p r (f i)) rows s

free_most : (b : Bool) → free b ≤ 1
free_most true = omega arith
free_most false = omega arith

-- a row is added that covers only what was covered
covers_none : (kept rows : List Row) (p : Row) → Settled p kept rows → uncovered kept rows ≤ uncovered (kept ++ p ∷ []) rows
covers_none kept [] p e = omega arith
covers_none kept (r ∷ rows) p e = omega (arith, same, covers_none kept rows p e.1)
  where
    of : (a b : Bool) → (b ≡ true → a ≡ true) → free a ≤ free (a || b)
    of true b f = omega arith
    of false true f = absurd (true≢false (sym (f refl)))
    of false false f = omega arith

    same : free (covered kept r) ≤ free (covered (kept ++ p ∷ []) r)
    same = subst (λ b. free (covered kept r) ≤ free b) (sym (covered_push kept p r)) (of (covered kept r) (includes r.pattern p.pattern) e.0)

-- From these kept rows to those: there are at least as many more as rows of `done` and `rest` that are covered only now.
abbrev After : Row → List Row → List Row → List Row → List Row → Type 0
After a done rest kept more =
    (length kept + (uncovered kept done + uncovered kept rest) ≤ length more + (uncovered more done + uncovered more rest)) × Settled a more done × Settled a more rest

turned : (a x : Row) (done xs kept mid more : List Row) →
    length kept + (uncovered kept done + (free (covered kept x) + uncovered kept xs)) ≤ length mid + ((free (covered mid x) + uncovered mid done) + uncovered mid xs) →
    After a (x ∷ done) xs mid more → After a done (x ∷ xs) kept more
turned a x done xs kept mid more h after = (omega (arith, h, after.0), after.1.1, (after.1.0, after.2))

block : (a : Row) (done rest kept : List Row) → Apart rest → Settled a kept done → After a done rest kept (kept_of kept (pairs_with a rest))
block a done [] kept p s = (omega arith, s, tt)
block a done (x ∷ xs) kept p s =
    by (clash a.pattern x.pattern) refl (λ e. block a (x ∷ done) xs kept p.2 (e, s)) (λ e. block a (x ∷ done) xs (kept ++ pair a x ∷ []) p.2 (e, settled_more a (pair a x) kept done s))
  where
    step : length kept + (uncovered kept done + (free (covered kept x) + uncovered kept xs))
        ≤ length (kept ++ pair a x ∷ []) + ((free (covered (kept ++ pair a x ∷ []) x) + uncovered (kept ++ pair a x ∷ []) done) + uncovered (kept ++ pair a x ∷ []) xs)
    step = omega (
      arith,
      length-append kept (pair a x ∷ []),
      free_most (covered kept x),
      covers_none kept done (pair a x) (each_from (λ r. includes r.pattern a.pattern ≡ true → covered kept r ≡ true) (λ r. includes r.pattern (union a.pattern x.pattern) ≡ true → covered kept r ≡ true)
          (λ r f h. f (through r.pattern (union a.pattern x.pattern) a.pattern h (union_first a.pattern x.pattern))) done s),
      covers_none kept xs (pair a x) (each_from (λ r. includes r.pattern x.pattern ≡ false) (λ r. includes r.pattern (union a.pattern x.pattern) ≡ true → covered kept r ≡ true)
          (λ r f h. absurd (true≢false (sym (through r.pattern (union a.pattern x.pattern) x.pattern h (union_second a.pattern x.pattern)) ∙ f))) xs p.1),
    )

    holds : includes x.pattern a.pattern ≡ true → includes x.pattern (union a.pattern x.pattern) ≡ true
    holds i = includes_union x.pattern a.pattern x.pattern i (includes_self x.pattern)

    now : (u : Bool) → covered kept (pair a x) ≡ u →
        ((includes x.pattern a.pattern ≡ true → covered kept x ≡ true) → After a (x ∷ done) xs kept (kept_of kept (pairs_with a xs))) →
        ((includes x.pattern a.pattern ≡ true → covered (kept ++ pair a x ∷ []) x ≡ true) → After a (x ∷ done) xs (kept ++ pair a x ∷ []) (kept_of (kept ++ pair a x ∷ []) (pairs_with a xs))) →
        After a done (x ∷ xs) kept (kept_of (if u then kept else kept ++ pair a x ∷ []) (pairs_with a xs))
    now true h same more = turned a x done xs kept kept (kept_of kept (pairs_with a xs)) (omega arith) (same (λ i. covered_larger kept (pair a x) x (holds i) h))
    now false h same more =
        turned a x done xs kept (kept ++ pair a x ∷ []) (kept_of (kept ++ pair a x ∷ []) (pairs_with a xs)) step (more (λ i. covered_last kept (pair a x) x (holds i)))

    by : (t : Bool) → clash a.pattern x.pattern ≡ t →
        ((includes x.pattern a.pattern ≡ true → covered kept x ≡ true) → After a (x ∷ done) xs kept (kept_of kept (pairs_with a xs))) →
        ((includes x.pattern a.pattern ≡ true → covered (kept ++ pair a x ∷ []) x ≡ true) → After a (x ∷ done) xs (kept ++ pair a x ∷ []) (kept_of (kept ++ pair a x ∷ []) (pairs_with a xs))) →
        After a done (x ∷ xs) kept (kept_of kept (if t then pairs_with a xs else pair a x ∷ pairs_with a xs))
    by true h same more =
        turned a x done xs kept kept (kept_of kept (pairs_with a xs)) (omega arith)
        (same (λ i. absurd (true≢false (sym h ∙ no_clash x.pattern a.pattern x.pattern p.0 i (includes_self x.pattern)))))
    by false h same more = now (covered kept (pair a x)) refl same more

default_adds : (a : Row) (kept b : List Row) → Settled a kept b → length kept + uncovered kept b ≤ length (kept_of kept (pairs_with a (default ∷ []))) + uncovered (kept_of kept (pairs_with a (default ∷ []))) b
default_adds a kept b s = by (clash a.pattern [])
  where
    now : (u : Bool) → length kept + uncovered kept b ≤ length (if u then kept else kept ++ pair a default ∷ []) + uncovered (if u then kept else kept ++ pair a default ∷ []) b
    now true = omega arith
    now false = omega (
      arith,
      length-append kept (pair a default ∷ []),
      covers_none kept b (pair a default)
          (each_from (λ r. includes r.pattern a.pattern ≡ true → covered kept r ≡ true) (λ r. includes r.pattern (union a.pattern []) ≡ true → covered kept r ≡ true)
          (λ r f h. f (through r.pattern (union a.pattern []) a.pattern h (union_first a.pattern []))) b s),
    )

    by : (t : Bool) → length kept + uncovered kept b ≤ length (kept_of kept (if t then [] else pair a default ∷ [])) + uncovered (kept_of kept (if t then [] else pair a default ∷ [])) b
    by true = omega arith
    by false = now (covered kept (pair a default))

none_left : (kept rows : List Row) → Settled default kept rows → uncovered kept rows ≡ 0
none_left kept [] s = refl
none_left kept (r ∷ rows) s = omega (arith, ap free (s.0 refl), none_left kept rows s.1)

all_blocks : (rows b kept : List Row) → Apart b → length kept + uncovered kept b ≤ length (kept_of kept (pairs rows b))
all_blocks [] b kept p =
    let after = block default [] b kept p tt in
    omega (arith, after.0, none_left (kept_of kept (pairs_with default b)) b after.2)
all_blocks (r ∷ rows) b kept p =
    let after = block r [] b kept p tt in
    subst (λ l. length kept + uncovered kept b ≤ length l) (sym path)
    (omega (arith, after.0, default_adds r (kept_of kept (pairs_with r b)) b after.2, all_blocks rows b (kept_of (kept_of kept (pairs_with r b)) (pairs_with r (default ∷ []))) p))
  where
    path : kept_of kept (pairs_with r (b ++ default ∷ []) ++ pairs rows b) ≡ kept_of (kept_of (kept_of kept (pairs_with r b)) (pairs_with r (default ∷ []))) (pairs rows b)
    path =
        kept_append (pairs_with r (b ++ default ∷ [])) (pairs rows b) kept
        ∙ ap (λ k. kept_of k (pairs rows b)) (ap (kept_of kept) (with_append r b (default ∷ [])) ∙ kept_append (pairs_with r b) (pairs_with r (default ∷ [])) kept)

all_uncovered : (rows : List Row) → uncovered [] rows ≡ length rows
all_uncovered [] = refl
all_uncovered (r ∷ rows) = omega (arith, all_uncovered rows)

second_fits : (a b : List Row) → Apart b → length b ≤ length (product a b)
second_fits a b p = subst (λ l. length b ≤ length l) (product_is a b) (omega (arith, all_blocks a b [] p, all_uncovered b))

-- ---- the products on the way

on_the_way : (most : ℕ) (tables : List (List Row)) (t : List Row) → Apart t → length (fold product t tables) ≤ most → (length t ≤ most) × (few_behind most t tables ≡ true)
on_the_way most [] t a h = (h, refl)
on_the_way most (u ∷ tables) t a h =
    let next = on_the_way most tables (product t u) (product_apart t u) h in
    (omega (arith, first_fits t u a, next.0), and_from (nat_le (length (product t u)) most) (few_behind most (product t u) tables) (le-leb (length (product t u)) most next.0) next.1)

pub few_follow : (most : ℕ) (table : List Row) (tables : List (List Row)) → length (product table (merged tables)) ≤ most → few_on_the_way most tables ≡ true
few_follow most table [] h = refl
few_follow most table (t ∷ []) h = refl
few_follow most table (t ∷ (u ∷ tables)) h =
    let whole = folded_apart (product t u) tables (product_apart t u) in
    let next = on_the_way most tables (product t u) (product_apart t u) (omega (arith, second_fits table (fold product (product t u) tables) whole, h)) in
    and_from (nat_le (length (product t u)) most) (few_behind most (product t u) tables) (le-leb (length (product t u)) most next.0) next.1

-- so a product on the way that is too long leaves no room in any table
pub too_many : (most : ℕ) (table : List Row) (tables : List (List Row)) → few_on_the_way most tables ≡ false → length (product table (merged tables)) ≤ most → ⊥
too_many most table tables many few = true≢false (sym (few_follow most table tables few) ∙ many)

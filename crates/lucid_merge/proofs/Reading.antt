-- Products of rows whose literals are read as others, of which the same are the same and the same are opposed, have as many rows.
use Rattle.std.proofs.Common.{◌≡◌, suc, List, [], ◌∷◌, ◌++◌, Bool, true, false, ◌&&◌, ◌||◌, if◌then◌else◌, length, refl, sym, ap, ap₂}
use Rattle.std.specs.List.{fold, list_any}
use Rattle.std.proofs.lemmas.Bool.{true≢false}
use Rattle.lucid_code.specs.declared.op.Literal.{Literal}
use Rattle.lucid_code.specs.Guards.{opposed, contradict}
use Rattle.lucid_tables.specs.declared.table.Row.{Row}
use Rattle.lucid_merge.specs.Product.{has, with_literal, union, pair, default, clash, pairs_with, pairs, includes, keep, kept_of, product}
use Rattle.lucid_merge.specs.RowCounts.{patterns_of, KeepsApart, Reads, AllReads}

module _ (reads : Literal → Literal → Bool) (keeps : KeepsApart reads) where
  has_read : (p q : List Literal) (l k : Literal) → Reads reads p q → reads l k ≡ true → has p l ≡ has q k
  has_read [] [] l k r h = refl
  has_read [] (n ∷ q) l k r h = absurd r
  has_read (m ∷ p) [] l k r h = absurd r
  has_read (m ∷ p) (n ∷ q) l k r h = ap₂ (λ (x y : Bool). x || y) (keeps l k m n h r.0).0 (has_read p q l k r.1 h)

  push_read : (p q : List Literal) (l k : Literal) → Reads reads p q → reads l k ≡ true → Reads reads (p ++ l ∷ []) (q ++ k ∷ [])
  push_read [] [] l k r h = (h, r)
  push_read [] (n ∷ q) l k r h = absurd r
  push_read (m ∷ p) [] l k r h = absurd r
  push_read (m ∷ p) (n ∷ q) l k r h = (r.0, push_read p q l k r.1 h)

  with_read : (p q : List Literal) (l k : Literal) → Reads reads p q → reads l k ≡ true → Reads reads (with_literal p l) (with_literal q k)
  with_read p q l k r h = by (has p l) (has q k) (has_read p q l k r h)
    where
      by : (x y : Bool) → x ≡ y → Reads reads (if x then p else p ++ l ∷ []) (if y then q else q ++ k ∷ [])
      by true true e = r
      by true false e = absurd (true≢false e)
      by false true e = absurd (true≢false (sym e))
      by false false e = push_read p q l k r h

  fold_read : (ms ns p q : List Literal) → Reads reads ms ns → Reads reads p q → Reads reads (fold with_literal p ms) (fold with_literal q ns)
  fold_read [] [] p q s r = r
  fold_read [] (n ∷ ns) p q s r = absurd s
  fold_read (m ∷ ms) [] p q s r = absurd s
  fold_read (m ∷ ms) (n ∷ ns) p q s r = fold_read ms ns (with_literal p m) (with_literal q n) s.1 (with_read p q m n r s.0)

  union_read : (p q m n : List Literal) → Reads reads p q → Reads reads m n → Reads reads (union p m) (union q n)
  union_read p q m n r s = fold_read m n (fold with_literal [] p) (fold with_literal [] q) s (fold_read p q [] [] r tt)

  opposed_read : (p q : List Literal) (l k : Literal) → Reads reads p q → reads l k ≡ true → list_any (opposed l) p ≡ list_any (opposed k) q
  opposed_read [] [] l k r h = refl
  opposed_read [] (n ∷ q) l k r h = absurd r
  opposed_read (m ∷ p) [] l k r h = absurd r
  opposed_read (m ∷ p) (n ∷ q) l k r h = ap₂ (λ (x y : Bool). x || y) (keeps l k m n h r.0).1 (opposed_read p q l k r.1 h)

  contradict_read : (p q m n : List Literal) → Reads reads p q → Reads reads m n → contradict p m ≡ contradict q n
  contradict_read [] [] m n r s = refl
  contradict_read [] (k ∷ q) m n r s = absurd r
  contradict_read (l ∷ p) [] m n r s = absurd r
  contradict_read (l ∷ p) (k ∷ q) m n r s = ap₂ (λ (x y : Bool). x || y) (opposed_read m n l k s r.0) (contradict_read p q m n r.1 s)

  clash_read : (p q m n : List Literal) → Reads reads p q → Reads reads m n → clash p m ≡ clash q n
  clash_read p q m n r s = ap₂ (λ (x y : Bool). x || y) (ap₂ (λ (x y : Bool). x || y) (contradict_read p q p q r r) (contradict_read p q m n r s)) (contradict_read m n m n s s)

  includes_read : (p q m n : List Literal) → Reads reads p q → Reads reads m n → includes p m ≡ includes q n
  includes_read p q [] [] r s = refl
  includes_read p q [] (n ∷ ns) r s = absurd s
  includes_read p q (m ∷ ms) [] r s = absurd s
  includes_read p q (m ∷ ms) (n ∷ ns) r s = ap₂ (λ (x y : Bool). x && y) (has_read p q m n r s.0) (includes_read p q ms ns r s.1)

  -- ---- rows

  abbrev Rows : List Row → List Row → Type 0
  Rows [] [] = Unit {0}
  Rows [] (j ∷ js) = ⊥
  Rows (k ∷ ks) [] = ⊥
  Rows (k ∷ ks) (j ∷ js) = Reads reads k.pattern j.pattern × Rows ks js

  rows_from : (ks js : List Row) → AllReads reads (patterns_of ks) (patterns_of js) → Rows ks js
  rows_from [] [] r = tt
  rows_from [] (j ∷ js) r = absurd r
  rows_from (k ∷ ks) [] r = absurd r
  rows_from (k ∷ ks) (j ∷ js) r = (r.0, rows_from ks js r.1)

  rows_join : (ks js ms ns : List Row) → Rows ks js → Rows ms ns → Rows (ks ++ ms) (js ++ ns)
  rows_join [] [] ms ns r s = s
  rows_join [] (j ∷ js) ms ns r s = absurd r
  rows_join (k ∷ ks) [] ms ns r s = absurd r
  rows_join (k ∷ ks) (j ∷ js) ms ns r s = (r.0, rows_join ks js ms ns r.1 s)

  length_rows : (ks js : List Row) → Rows ks js → length ks ≡ length js
  length_rows [] [] r = refl
  length_rows [] (j ∷ js) r = absurd r
  length_rows (k ∷ ks) [] r = absurd r
  length_rows (k ∷ ks) (j ∷ js) r = ap suc (length_rows ks js r.1)

  rows_with : (x y : Row) (bs cs : List Row) → Reads reads x.pattern y.pattern → Rows bs cs → Rows (pairs_with x bs) (pairs_with y cs)
  rows_with x y [] [] e r = tt
  rows_with x y [] (c ∷ cs) e r = absurd r
  rows_with x y (b ∷ bs) [] e r = absurd r
  rows_with x y (b ∷ bs) (c ∷ cs) e r = by (clash x.pattern b.pattern) (clash y.pattern c.pattern) (clash_read x.pattern y.pattern b.pattern c.pattern e r.0) (rows_with x y bs cs e r.1)
    where
      by : (s t : Bool) → s ≡ t → Rows (pairs_with x bs) (pairs_with y cs) → Rows (if s then pairs_with x bs else pair x b ∷ pairs_with x bs) (if t then pairs_with y cs else pair y c ∷ pairs_with y cs)
      by true true u more = more
      by true false u more = absurd (true≢false u)
      by false true u more = absurd (true≢false (sym u))
      by false false u more = (union_read x.pattern y.pattern b.pattern c.pattern e r.0, more)

  rows_pairs : (xs ys bs cs : List Row) → Rows xs ys → Rows bs cs → Rows (pairs xs bs) (pairs ys cs)
  rows_pairs [] [] bs cs r s = rows_with default default bs cs tt s
  rows_pairs [] (y ∷ ys) bs cs r s = absurd r
  rows_pairs (x ∷ xs) [] bs cs r s = absurd r
  rows_pairs (x ∷ xs) (y ∷ ys) bs cs r s = rows_join (pairs_with x (bs ++ default ∷ [])) (pairs_with y (cs ++ default ∷ [])) (pairs xs bs) (pairs ys cs)
      (rows_with x y (bs ++ default ∷ []) (cs ++ default ∷ []) r.0 (rows_join bs cs (default ∷ []) (default ∷ []) s (tt, tt))) (rows_pairs xs ys bs cs r.1 s)

  covered_read : (m n : Row) (ks js : List Row) → Reads reads m.pattern n.pattern → Rows ks js →
      list_any (λ (k : Row). includes m.pattern k.pattern) ks ≡ list_any (λ (k : Row). includes n.pattern k.pattern) js
  covered_read m n [] [] e r = refl
  covered_read m n [] (j ∷ js) e r = absurd r
  covered_read m n (k ∷ ks) [] e r = absurd r
  covered_read m n (k ∷ ks) (j ∷ js) e r = ap₂ (λ (x y : Bool). x || y) (includes_read m.pattern n.pattern k.pattern j.pattern e r.0) (covered_read m n ks js e r.1)

  rows_keep : (ks js : List Row) (m n : Row) → Rows ks js → Reads reads m.pattern n.pattern → Rows (keep ks m) (keep js n)
  rows_keep ks js m n r e = by (list_any (λ (k : Row). includes m.pattern k.pattern) ks) (list_any (λ (k : Row). includes n.pattern k.pattern) js) (covered_read m n ks js e r)
    where
      by : (x y : Bool) → x ≡ y → Rows (if x then ks else ks ++ m ∷ []) (if y then js else js ++ n ∷ [])
      by true true u = r
      by true false u = absurd (true≢false u)
      by false true u = absurd (true≢false (sym u))
      by false false u = rows_join ks js (m ∷ []) (n ∷ []) r (e, tt)

  rows_kept : (ms ns ks js : List Row) → Rows ks js → Rows ms ns → Rows (kept_of ks ms) (kept_of js ns)
  rows_kept [] [] ks js r s = r
  rows_kept [] (n ∷ ns) ks js r s = absurd s
  rows_kept (m ∷ ms) [] ks js r s = absurd s
  rows_kept (m ∷ ms) (n ∷ ns) ks js r s = rows_kept ms ns (keep ks m) (keep js n) (rows_keep ks js m n r s.0) s.1

  pub read_otherwise : (a b c d : List Row) → AllReads reads (patterns_of a) (patterns_of c) → AllReads reads (patterns_of b) (patterns_of d) → length (product a b) ≡ length (product c d)
  unfolding product
  read_otherwise a b c d r s = length_rows (product a b) (product c d) (rows_kept (pairs a b) (pairs c d) [] [] tt (rows_pairs a c b d (rows_from a c r) (rows_from b d s)))

-- Two products that keep the same pairs.
use Rattle.std.proofs.Common.{◌≡◌, ℕ, suc, List, [], ◌∷◌, ◌++◌, Bool, true, false, not, ◌&&◌, ◌||◌, ◌⊎◌, inl, inr, if◌then◌else◌, length, map, nat_eq, refl, sym, ap, ap₂, subst, ◌∙◌, ⊎_elim}
use Rattle.std.specs.List.{list_any, AllByRecursion}
use Rattle.std.proofs.lemmas.Bool.{and_parts, or_cases, or_left, or_right, eqb-true, true≢false, false_from_ne_true}
use Rattle.lucid_code.specs.declared.op.Literal.{Literal}
use Rattle.lucid_code.specs.Guards.{opposed, contradict}
use Rattle.lucid_tables.specs.declared.table.Row.{Row}
use Rattle.lucid_tables.specs.Numbers.{is_in}
use Rattle.lucid_tables.specs.Rows.{named_fields}
use Rattle.lucid_tables.proofs.Members.{is_in_append}
use Rattle.lucid_merge.specs.Product.{is_same, has, union, pair, default, clash, pairs_with, pairs, includes, keep, kept_of, product}
use Rattle.lucid_merge.proofs.Reading.{read_otherwise}
use Rattle.lucid_merge.proofs.Literals.{same_refl, literal_is, has_union, included, includes_from, has_field}
use Rattle.lucid_merge.specs.RowCounts.{patterns_of, SameFor, IsNew, RowsAreCounted}

both_ways : (a b : Bool) → (a ≡ true → b ≡ true) → (b ≡ true → a ≡ true) → a ≡ b
both_ways true b f g = sym (f refl)
both_ways false true f g = g refl
both_ways false false f g = refl

-- ---- opposed literals

opposed_field : (l m : Literal) → opposed l m ≡ true → l.field ≡ m.field
opposed_field l m h = eqb-true l.field m.field (and_parts (nat_eq l.field m.field) (if l.equal then (if m.equal then not (nat_eq l.value m.value) else nat_eq l.value m.value) else m.equal && nat_eq l.value m.value) h).0

any_has : (t : Literal → Bool) (p : List Literal) → list_any t p ≡ true → (l : Literal) × (has p l ≡ true) × (t l ≡ true)
any_has t [] h = absurd (true≢false (sym h))
any_has t (m ∷ p) h = by (or_cases (t m) (list_any t p) h) (λ r. any_has t p r)
  where
    by : (t m ≡ true) ⊎ (list_any t p ≡ true) → (list_any t p ≡ true → (l : Literal) × (has p l ≡ true) × (t l ≡ true)) → (l : Literal) × (has (m ∷ p) l ≡ true) × (t l ≡ true)
    by (inl e) again = (m, or_left (is_same m m) (has p m) (same_refl m), e)
    by (inr e) again = let r = again e in (r.0, or_right (is_same r.0 m) (has p r.0) r.1, r.2)

pub has_any : (t : Literal → Bool) (p : List Literal) (l : Literal) → has p l ≡ true → t l ≡ true → list_any t p ≡ true
has_any t [] l h e = absurd (true≢false (sym h))
has_any t (m ∷ p) l h e = ⊎_elim (λ s. or_left (t m) (list_any t p) (ap t (sym (literal_is l m s)) ∙ e)) (λ r. or_right (t m) (list_any t p) (has_any t p l r e)) (or_cases (is_same l m) (has p l) h)

-- ---- two products with one row each

module _ (a : List Row) (r s : Row) (plain : contradict r.pattern r.pattern ≡ false) (sane : contradict s.pattern s.pattern ≡ false) (same : SameFor a r.pattern s.pattern) (left : IsNew a r.pattern) (right : IsNew a s.pattern) where
  -- all its literals are of fields that the table names
  abbrev Old : List Literal → Type 0
  Old p = (l : Literal) → has p l ≡ true → is_in l.field (named_fields a) ≡ true

  contradicts_to : (p q x : List Literal) → ((l : Literal) → is_in l.field (named_fields a) ≡ true → has p l ≡ has q l) → Old x → contradict x p ≡ true → contradict x q ≡ true
  contradicts_to p q x h o c =
      let l = any_has (λ l. list_any (opposed l) p) x c in
      let m = any_has (opposed l.0) p l.2 in
      let named : is_in m.0.field (named_fields a) ≡ true = ap (λ k. is_in k (named_fields a)) (sym (opposed_field l.0 m.0 m.2)) ∙ o l.0 l.1 in
      has_any (λ l. list_any (opposed l) q) x l.0 l.1 (has_any (opposed l.0) q m.0 (sym (h m.0 named) ∙ m.1) m.2)

  contradicts_alike : (x : List Literal) → Old x → contradict x r.pattern ≡ contradict x s.pattern
  contradicts_alike x o = both_ways (contradict x r.pattern) (contradict x s.pattern) (contradicts_to r.pattern s.pattern x same o) (contradicts_to s.pattern r.pattern x (λ l n. sym (same l n)) o)

  clash_alike : (x : List Literal) → Old x → clash x r.pattern ≡ clash x s.pattern
  clash_alike x o = ap (λ b. contradict x x || b || contradict r.pattern r.pattern) (contradicts_alike x o) ∙ ap (λ b. contradict x x || contradict x s.pattern || b) (plain ∙ sym sane)

  -- a pair of the one product and the pair of the other: neither has the row, or both have
  abbrev Twin : Row → Row → Type 0
  Twin k j = (Old k.pattern × (k.pattern ≡ j.pattern)) ⊎ ((x : List Literal) × Old x × (k.pattern ≡ union x r.pattern) × (j.pattern ≡ union x s.pattern))

  abbrev Twins : List Row → List Row → Type 0
  Twins [] [] = Unit {0}
  Twins [] (j ∷ js) = ⊥
  Twins (k ∷ ks) [] = ⊥
  Twins (k ∷ ks) (j ∷ js) = Twin k j × Twins ks js

  old_not_new : (p y q : List Literal) → Old p → IsNew a q → includes p (union y q) ≡ false
  old_not_new p y q o n = false_from_ne_true (includes p (union y q)) (λ h.
      true≢false (sym (o n.0 (included p (union y q) h n.0 (has_union y q n.0 ∙ or_right (has y n.0) (has q n.0) n.1))) ∙ n.2))

  new_old : (x q p1 p2 : List Literal) → ((l : Literal) → is_in l.field (named_fields a) ≡ true → has p1 l ≡ has p2 l) → Old q → includes (union x p1) q ≡ true → includes (union x p2) q ≡ true
  new_old x q p1 p2 h o i = includes_from (union x p2) q (λ l n.
      has_union x p2 l ∙ ap (λ b. has x l || b) (sym (h l (o l n))) ∙ sym (has_union x p1 l) ∙ included (union x p1) q i l n)

  new_new : (x y p1 p2 : List Literal) → ((l : Literal) → is_in l.field (named_fields a) ≡ true → has p1 l ≡ has p2 l) → Old y → includes (union x p1) (union y p1) ≡ true → includes (union x p2) (union y p2) ≡ true
  new_new x y p1 p2 h o i = includes_from (union x p2) (union y p2) (λ l n. ⊎_elim
      (λ e. has_union x p2 l ∙ ap (λ b. has x l || b) (sym (h l (o l e))) ∙ sym (has_union x p1 l) ∙ included (union x p1) (union y p1) i l (has_union y p1 l ∙ or_left (has y l) (has p1 l) e))
      (λ e. has_union x p2 l ∙ or_right (has x l) (has p2 l) e)
      (or_cases (has y l) (has p2 l) (sym (has_union y p2 l) ∙ n)))

  back : (l : Literal) → is_in l.field (named_fields a) ≡ true → has s.pattern l ≡ has r.pattern l
  back l n = sym (same l n)

  twin_includes : (m n k j : Row) → Twin m n → Twin k j → includes m.pattern k.pattern ≡ includes n.pattern j.pattern
  twin_includes m n k j (inl t) (inl u) = ap₂ (λ (p q : List Literal). includes p q) t.1 u.1
  twin_includes m n k j (inl t) (inr u) =
      ap (includes m.pattern) u.2 ∙ old_not_new m.pattern u.0 r.pattern t.0 left
      ∙ sym (ap (includes n.pattern) u.3 ∙ old_not_new n.pattern u.0 s.pattern (subst Old t.1 t.0) right)
  twin_includes m n k j (inr t) (inl u) =
      ap (λ p. includes p k.pattern) t.2
      ∙ both_ways (includes (union t.0 r.pattern) k.pattern) (includes (union t.0 s.pattern) k.pattern) (new_old t.0 k.pattern r.pattern s.pattern same u.0) (new_old t.0 k.pattern s.pattern r.pattern back u.0)
      ∙ ap₂ (λ (p q : List Literal). includes p q) (sym t.3) u.1
  twin_includes m n k j (inr t) (inr u) =
      ap₂ (λ (p q : List Literal). includes p q) t.2 u.2
      ∙ both_ways (includes (union t.0 r.pattern) (union u.0 r.pattern)) (includes (union t.0 s.pattern) (union u.0 s.pattern)) (new_new t.0 u.0 r.pattern s.pattern same u.1) (new_new t.0 u.0 s.pattern r.pattern back u.1)
      ∙ ap₂ (λ (p q : List Literal). includes p q) (sym t.3) (sym u.3)

  covered_alike : (m n : Row) (ks js : List Row) → Twin m n → Twins ks js → list_any (λ (k : Row). includes m.pattern k.pattern) ks ≡ list_any (λ (k : Row). includes n.pattern k.pattern) js
  covered_alike m n [] [] t u = refl
  covered_alike m n [] (j ∷ js) t u = absurd u
  covered_alike m n (k ∷ ks) [] t u = absurd u
  covered_alike m n (k ∷ ks) (j ∷ js) t u = ap₂ (λ (x y : Bool). x || y) (twin_includes m n k j t u.0) (covered_alike m n ks js t u.1)

  twins_push : (ks js : List Row) (m n : Row) → Twins ks js → Twin m n → Twins (ks ++ m ∷ []) (js ++ n ∷ [])
  twins_push [] [] m n t u = (u, tt)
  twins_push [] (j ∷ js) m n t u = absurd t
  twins_push (k ∷ ks) [] m n t u = absurd t
  twins_push (k ∷ ks) (j ∷ js) m n t u = (t.0, twins_push ks js m n t.1 u)

  twins_keep : (ks js : List Row) (m n : Row) → Twins ks js → Twin m n → Twins (keep ks m) (keep js n)
  twins_keep ks js m n t u = by (list_any (λ (k : Row). includes m.pattern k.pattern) ks) (list_any (λ (k : Row). includes n.pattern k.pattern) js) (covered_alike m n ks js u t)
    where
      by : (x y : Bool) → x ≡ y → Twins (if x then ks else ks ++ m ∷ []) (if y then js else js ++ n ∷ [])
      by true true e = t
      by true false e = absurd (true≢false e)
      by false true e = absurd (true≢false (sym e))
      by false false e = twins_push ks js m n t u

  twins_kept : (ms ns ks js : List Row) → Twins ks js → Twins ms ns → Twins (kept_of ks ms) (kept_of js ns)
  twins_kept [] [] ks js t u = t
  twins_kept [] (n ∷ ns) ks js t u = absurd u
  twins_kept (m ∷ ms) [] ks js t u = absurd u
  twins_kept (m ∷ ms) (n ∷ ns) ks js t u = twins_kept ms ns (keep ks m) (keep js n) (twins_keep ks js m n t u.0) u.1

  twins_join : (ks js ms ns : List Row) → Twins ks js → Twins ms ns → Twins (ks ++ ms) (js ++ ns)
  twins_join [] [] ms ns t u = u
  twins_join [] (j ∷ js) ms ns t u = absurd t
  twins_join (k ∷ ks) [] ms ns t u = absurd t
  twins_join (k ∷ ks) (j ∷ js) ms ns t u = (t.0, twins_join ks js ms ns t.1 u)

  length_twins : (ks js : List Row) → Twins ks js → length ks ≡ length js
  length_twins [] [] t = refl
  length_twins [] (j ∷ js) t = absurd t
  length_twins (k ∷ ks) [] t = absurd t
  length_twins (k ∷ ks) (j ∷ js) t = ap suc (length_twins ks js t.1)

  -- a row of the table with the row, and with the later rows in both
  with_row : (x : Row) (bs cs : List Row) → Old x.pattern → Twins (pairs_with x bs) (pairs_with x cs) → Twins (pairs_with x (r ∷ bs)) (pairs_with x (s ∷ cs))
  with_row x bs cs o t = by (clash x.pattern r.pattern) (clash x.pattern s.pattern) (clash_alike x.pattern o)
    where
      by : (c d : Bool) → c ≡ d → Twins (if c then pairs_with x bs else pair x r ∷ pairs_with x bs) (if d then pairs_with x cs else pair x s ∷ pairs_with x cs)
      by true true e = t
      by true false e = absurd (true≢false e)
      by false true e = absurd (true≢false (sym e))
      by false false e = (inr (x.pattern, o, refl, refl), t)

  with_default : (x : Row) → Old x.pattern → Twins (pairs_with x (default ∷ [])) (pairs_with x (default ∷ []))
  with_default x o = by (clash x.pattern [])
    where
      alone : Old (union x.pattern [])
      alone l h = o l (drop_false (has x.pattern l) (sym (has_union x.pattern [] l) ∙ h))
        where
          drop_false : (b : Bool) → (b || false) ≡ true → b ≡ true
          drop_false true e = refl
          drop_false false e = e

      by : (c : Bool) → Twins (if c then [] else pair x default ∷ []) (if c then [] else pair x default ∷ [])
      by true = tt
      by false = (inl (alone, refl), tt)

  twins_pairs : (xs : List Row) → AllByRecursion (λ (x : Row). Old x.pattern) xs → Twins (pairs xs (r ∷ [])) (pairs xs (s ∷ []))
  twins_pairs [] o = with_row default [] [] (λ l h. absurd (true≢false (sym h))) tt
  twins_pairs (x ∷ xs) o = twins_join (pairs_with x (r ∷ default ∷ [])) (pairs_with x (s ∷ default ∷ [])) (pairs xs (r ∷ [])) (pairs xs (s ∷ []))
      (with_row x (default ∷ []) (default ∷ []) o.0 (with_default x o.0)) (twins_pairs xs o.1)

  old_rows : (xs : List Row) → ((k : ℕ) → is_in k (named_fields xs) ≡ true → is_in k (named_fields a) ≡ true) → AllByRecursion (λ (x : Row). Old x.pattern) xs
  old_rows [] h = tt
  old_rows (x ∷ xs) h = (
    λ l n. h l.field (is_in_append l.field (map (λ (l : Literal). l.field) x.pattern) (named_fields xs) ∙ or_left (is_in l.field (map (λ (l : Literal). l.field) x.pattern)) (is_in l.field (named_fields xs)) (has_field x.pattern l n)),
    old_rows xs (λ k n. h k (is_in_append k (map (λ (l : Literal). l.field) x.pattern) (named_fields xs) ∙ or_right (is_in k (map (λ (l : Literal). l.field) x.pattern)) (is_in k (named_fields xs)) n)),
  )

  counted : length (product a (r ∷ [])) ≡ length (product a (s ∷ []))
  unfolding product
  counted = length_twins (product a (r ∷ [])) (product a (s ∷ [])) (twins_kept (pairs a (r ∷ [])) (pairs a (s ∷ [])) [] [] tt (twins_pairs a (old_rows a (λ k n. n))))

-- ---- patterns alone

abbrev Alike : List Row → List Row → Type 0
Alike [] [] = Unit {0}
Alike [] (j ∷ js) = ⊥
Alike (k ∷ ks) [] = ⊥
Alike (k ∷ ks) (j ∷ js) = (k.pattern ≡ j.pattern) × Alike ks js

alike_from : (ks js : List Row) → patterns_of ks ≡ patterns_of js → Alike ks js
alike_from [] [] e = tt
alike_from [] (j ∷ js) e = absurd (apart e)
  where
    apart : [] ≡ j.pattern ∷ patterns_of js → ⊥
    apart e = cc
alike_from (k ∷ ks) [] e = absurd (apart e)
  where
    apart : k.pattern ∷ patterns_of ks ≡ [] → ⊥
    apart e = cc
alike_from (k ∷ ks) (j ∷ js) e = (first e, alike_from ks js (rest e))
  where
    first : k.pattern ∷ patterns_of ks ≡ j.pattern ∷ patterns_of js → k.pattern ≡ j.pattern
    first e = cc

    rest : k.pattern ∷ patterns_of ks ≡ j.pattern ∷ patterns_of js → patterns_of ks ≡ patterns_of js
    rest e = cc

alike_to : (ks js : List Row) → Alike ks js → patterns_of ks ≡ patterns_of js
alike_to [] [] a = refl
alike_to [] (j ∷ js) a = absurd a
alike_to (k ∷ ks) [] a = absurd a
alike_to (k ∷ ks) (j ∷ js) a = ap₂ (λ (p : List Literal) (ps : List (List Literal)). p ∷ ps) a.0 (alike_to ks js a.1)

alike_covered : (m n : Row) (ks js : List Row) → m.pattern ≡ n.pattern → Alike ks js → list_any (λ (k : Row). includes m.pattern k.pattern) ks ≡ list_any (λ (k : Row). includes n.pattern k.pattern) js
alike_covered m n [] [] e a = refl
alike_covered m n [] (j ∷ js) e a = absurd a
alike_covered m n (k ∷ ks) [] e a = absurd a
alike_covered m n (k ∷ ks) (j ∷ js) e a = ap₂ (λ (x y : Bool). x || y) (ap₂ (λ (p q : List Literal). includes p q) e a.0) (alike_covered m n ks js e a.1)

alike_push : (ks js : List Row) (m n : Row) → Alike ks js → m.pattern ≡ n.pattern → Alike (ks ++ m ∷ []) (js ++ n ∷ [])
alike_push [] [] m n a e = (e, tt)
alike_push [] (j ∷ js) m n a e = absurd a
alike_push (k ∷ ks) [] m n a e = absurd a
alike_push (k ∷ ks) (j ∷ js) m n a e = (a.0, alike_push ks js m n a.1 e)

alike_keep : (ks js : List Row) (m n : Row) → Alike ks js → m.pattern ≡ n.pattern → Alike (keep ks m) (keep js n)
alike_keep ks js m n a e = by (list_any (λ (k : Row). includes m.pattern k.pattern) ks) (list_any (λ (k : Row). includes n.pattern k.pattern) js) (alike_covered m n ks js e a)
  where
    by : (x y : Bool) → x ≡ y → Alike (if x then ks else ks ++ m ∷ []) (if y then js else js ++ n ∷ [])
    by true true e = a
    by true false e = absurd (true≢false e)
    by false true e = absurd (true≢false (sym e))
    by false false e2 = alike_push ks js m n a e

alike_kept : (ms ns ks js : List Row) → Alike ks js → Alike ms ns → Alike (kept_of ks ms) (kept_of js ns)
alike_kept [] [] ks js a b = a
alike_kept [] (n ∷ ns) ks js a b = absurd b
alike_kept (m ∷ ms) [] ks js a b = absurd b
alike_kept (m ∷ ms) (n ∷ ns) ks js a b = alike_kept ms ns (keep ks m) (keep js n) (alike_keep ks js m n a b.0) b.1

alike_join : (ks js ms ns : List Row) → Alike ks js → Alike ms ns → Alike (ks ++ ms) (js ++ ns)
alike_join [] [] ms ns a b = b
alike_join [] (j ∷ js) ms ns a b = absurd a
alike_join (k ∷ ks) [] ms ns a b = absurd a
alike_join (k ∷ ks) (j ∷ js) ms ns a b = (a.0, alike_join ks js ms ns a.1 b)

alike_with : (x y : Row) (bs cs : List Row) → x.pattern ≡ y.pattern → Alike bs cs → Alike (pairs_with x bs) (pairs_with y cs)
alike_with x y [] [] e a = tt
alike_with x y [] (c ∷ cs) e a = absurd a
alike_with x y (b ∷ bs) [] e a = absurd a
alike_with x y (b ∷ bs) (c ∷ cs) e a = by (clash x.pattern b.pattern) (clash y.pattern c.pattern) (ap₂ (λ (p q : List Literal). clash p q) e a.0) (alike_with x y bs cs e a.1)
  where
    by : (s t : Bool) → s ≡ t → Alike (pairs_with x bs) (pairs_with y cs) → Alike (if s then pairs_with x bs else pair x b ∷ pairs_with x bs) (if t then pairs_with y cs else pair y c ∷ pairs_with y cs)
    by true true u r = r
    by true false u r = absurd (true≢false u)
    by false true u r = absurd (true≢false (sym u))
    by false false u r = (ap₂ (λ (p q : List Literal). union p q) e a.0, r)

alike_pairs : (xs ys bs cs : List Row) → Alike xs ys → Alike bs cs → Alike (pairs xs bs) (pairs ys cs)
alike_pairs [] [] bs cs a b = alike_with default default bs cs refl b
alike_pairs [] (y ∷ ys) bs cs a b = absurd a
alike_pairs (x ∷ xs) [] bs cs a b = absurd a
alike_pairs (x ∷ xs) (y ∷ ys) bs cs a b = alike_join (pairs_with x (bs ++ default ∷ [])) (pairs_with y (cs ++ default ∷ [])) (pairs xs bs) (pairs ys cs)
    (alike_with x y (bs ++ default ∷ []) (cs ++ default ∷ []) a.0 (alike_join bs cs (default ∷ []) (default ∷ []) b (refl, tt))) (alike_pairs xs ys bs cs a.1 b)

patterns_alone : (a b c d : List Row) → patterns_of a ≡ patterns_of c → patterns_of b ≡ patterns_of d → patterns_of (product a b) ≡ patterns_of (product c d)
unfolding product
patterns_alone a b c d e f = alike_to (product a b) (product c d) (alike_kept (pairs a b) (pairs c d) [] [] tt (alike_pairs a c b d (alike_from a c e) (alike_from b d f)))

pub rows_are_counted : RowsAreCounted
rows_are_counted = record { patterns = patterns_alone; new_field = counted; read_otherwise = read_otherwise }

-- Readings of literals as others: if they keep which literals are the same and which are opposed, a table that refuses the one shape
-- refuses the other.
use Rattle.std.proofs.Common.{◌≡◌, ℕ, ◌+◌, ◌<◌, ◌≤◌, List, [], ◌∷◌, ◌++◌, Bool, true, false, cond, not, ◌&&◌, ◌||◌, ◌⊎◌, inl, inr, if◌then◌else◌, length, drop, nat_eq, slice_index_or, refl, sym, ap, ap₂, subst, ◌∙◌, ⊎_elim, add-one, append-nil, append_assoc, drop-cons, drop_of_length-le, arith}
use Rattle.std.specs.List.{All, fold, list_all, list_any}
use Rattle.std.proofs.lemmas.Bool.{and_parts, and_from, or_cases, or_left, or_right, eqb-true, eq-eqb, true≢false}
use Rattle.std.proofs.lemmas.List.Folds.{list_any-append}
use Rattle.lucid_code.specs.declared.op.Literal.{Literal}
use Rattle.lucid_code.specs.Guards.{opposed}
use Rattle.lucid_merge.specs.Product.{is_same, has, with_literal, product}
use Rattle.lucid_merge.specs.RowCounts.{patterns_of, KeepsApart, Reads, AllReads, RowsAreCounted}
use Rattle.lucid_merge.proofs.Literals.{literal_is, same_refl, has_fold, passes}
use Rattle.lucid_refusals.proofs.RefusalLemmas.{bare, bare_patterns}
use Rattle.lucid_refusals.specs.declared.readings.Reading.{Reading}
use Rattle.lucid_refusals.specs.Readings.{keeps_sign, agree, itself, agrees_with, agrees_with_all, is_apart, are_apart, is_known, others_of, reading_of, readings_of, same_lengths}
use Rattle.lucid_refusals.specs.Refusal.{Refuses, literals_of}

-- ---- readings that agree

same_sign : (t u : Bool) → (if t then u else not u) ≡ true → t ≡ u
same_sign true true h = refl
same_sign true false h = sym h
same_sign false true h = h
same_sign false false h = refl

own_sign : (t : Bool) → (if t then t else not t) ≡ true
own_sign true = refl
own_sign false = refl

-- by whether fields and values are the same, and by the signs
abbrev sames : Bool → Bool → Bool → Bool → Bool
sames f v s t = f && (if s then t else not t) && v

abbrev against : Bool → Bool → Bool → Bool → Bool
against f v s t = f && (if s then (if t then not v else v) else t && v)

abbrev agreeing : Bool → Bool → Bool → Bool → Bool
agreeing f g v w = (if f then g else not g) && (not f || (if v then w else not w))

alike_by : (f g v w s t : Bool) → agreeing f g v w ≡ true → (sames f v s t ≡ sames g w s t) × (against f v s t ≡ against g w s t)
alike_by true true true true s t h = (refl, refl)
alike_by true true true false s t h = absurd (true≢false (sym h))
alike_by true true false true s t h = absurd (true≢false (sym h))
alike_by true true false false s t h = (refl, refl)
alike_by true false v w s t h = absurd (true≢false (sym h))
alike_by false true v w s t h = absurd (true≢false (sym h))
alike_by false false v w s t h = (refl, refl)

abbrev Alike : Reading → Reading → Type 0
Alike x y = (is_same x.own y.own ≡ is_same x.other y.other) × (opposed x.own y.own ≡ opposed x.other y.other)

alike : (x y : Reading) → keeps_sign x ≡ true → keeps_sign y ≡ true → agree x y ≡ true → Alike x y
alike x y s t h =
    let f = nat_eq x.own.field y.own.field in
    let g = nat_eq x.other.field y.other.field in
    let v = nat_eq x.own.value y.own.value in
    let w = nat_eq x.other.value y.other.value in
    let r = alike_by f g v w x.own.equal y.own.equal h in
    let e = same_sign x.own.equal x.other.equal s in
    let d = same_sign y.own.equal y.other.equal t in
    (r.0 ∙ ap₂ (λ (p q : Bool). sames g w p q) e d, r.1 ∙ ap₂ (λ (p q : Bool). against g w p q) e d)

eq_turned : (a b : ℕ) → nat_eq a b ≡ nat_eq b a
eq_turned a b = both (nat_eq a b) (nat_eq b a) (λ h. eq-eqb b a (sym (eqb-true a b h))) (λ h. eq-eqb a b (sym (eqb-true b a h)))
  where
    both : (x y : Bool) → (x ≡ true → y ≡ true) → (y ≡ true → x ≡ true) → x ≡ y
    both true y f g = sym (f refl)
    both false true f g = g refl
    both false false f g = refl

agree_turned : (x y : Reading) → agree x y ≡ true → agree y x ≡ true
agree_turned x y h =
    ap (λ f. agreeing f (nat_eq y.other.field x.other.field) (nat_eq y.own.value x.own.value) (nat_eq y.other.value x.other.value)) (eq_turned y.own.field x.own.field)
    ∙ ap (λ g. agreeing (nat_eq x.own.field y.own.field) g (nat_eq y.own.value x.own.value) (nat_eq y.other.value x.other.value)) (eq_turned y.other.field x.other.field)
    ∙ ap (λ v. agreeing (nat_eq x.own.field y.own.field) (nat_eq x.other.field y.other.field) v (nat_eq y.other.value x.other.value)) (eq_turned y.own.value x.own.value)
    ∙ ap (λ w. agreeing (nat_eq x.own.field y.own.field) (nat_eq x.other.field y.other.field) (nat_eq x.own.value y.own.value) w) (eq_turned y.other.value x.other.value)
    ∙ h

-- ---- readings of the table's literals as themselves

module _ (literals : List Literal) where
  from_others : (test : Reading → Bool) → ((x : Reading) → is_known literals x ≡ true → test x ≡ true) → (xs : List Reading) → list_all test (others_of literals xs) ≡ true → list_all test xs ≡ true
  from_others test k [] h = refl
  from_others test k (x ∷ xs) h = by (is_known literals x) refl (from_others test k xs) h
    where
      by : (b : Bool) → is_known literals x ≡ b → (list_all test (others_of literals xs) ≡ true → list_all test xs ≡ true) →
          list_all test (cond (not b) (x ∷ others_of literals xs) (others_of literals xs)) ≡ true → list_all test (x ∷ xs) ≡ true
      by true e rest g = and_from (test x) (list_all test xs) (k x e) (rest g)
      by false e rest g =
          let parts = and_parts (test x) (list_all test (others_of literals xs)) g in
          and_from (test x) (list_all test xs) parts.0 (rest parts.1)

  known_sign : (x : Reading) → is_known literals x ≡ true → keeps_sign x ≡ true
  known_sign x h = ap (λ (l : Literal). if x.own.equal then l.equal else not l.equal) (sym (literal_is x.own x.other (and_parts (is_same x.own x.other) (has literals x.own) h).0)) ∙ own_sign x.own.equal

  known_agrees : (x y : Reading) → agrees_with x literals ≡ true → is_known literals y ≡ true → agree x y ≡ true
  known_agrees x y a h =
      let parts = and_parts (is_same y.own y.other) (has literals y.own) h in
      ap (λ (l : Literal). agree x (record { own = y.own; other = l })) (sym (literal_is y.own y.other parts.0)) ∙ passes (λ l. agree x (itself l)) literals y.own a parts.1

  still_apart : (readings : List Reading) (x : Reading) → is_apart literals (others_of literals readings) x ≡ true → is_apart literals readings x ≡ true
  still_apart readings x h = ⊎_elim
      (λ e. or_left (is_same x.own x.other) (agrees_with_all literals readings x) e)
      (λ e. let parts = and_parts (list_all (agree x) (others_of literals readings)) (agrees_with x literals) e in
      or_right (is_same x.own x.other) (agrees_with_all literals readings x)
      (and_from (list_all (agree x) readings) (agrees_with x literals) (from_others (agree x) (λ y k. known_agrees x y parts.1 k) readings parts.0) parts.1))
      (or_cases (is_same x.own x.other) (agrees_with_all literals (others_of literals readings) x) h)

  all_still : (readings xs : List Reading) → list_all (is_apart literals (others_of literals readings)) xs ≡ true → list_all (is_apart literals readings) xs ≡ true
  all_still readings [] h = refl
  all_still readings (x ∷ xs) h =
      let parts = and_parts (is_apart literals (others_of literals readings) x) (list_all (is_apart literals (others_of literals readings)) xs) h in
      and_from (is_apart literals readings x) (list_all (is_apart literals readings) xs) (still_apart readings x parts.0) (all_still readings xs parts.1)

  -- the other readings decide for all of them
  pub apart_of : (readings : List Reading) → are_apart literals (others_of literals readings) ≡ true → are_apart literals readings ≡ true
  apart_of readings h =
      let others = others_of literals readings in
      let parts = and_parts (list_all keeps_sign others) (list_all (is_apart literals others) others) h in
      and_from (list_all keeps_sign readings) (list_all (is_apart literals readings) readings)
      (from_others keeps_sign known_sign readings parts.0)
      (from_others (is_apart literals readings)
      (λ x k. or_left (is_same x.own x.other) (agrees_with_all literals readings x) (and_parts (is_same x.own x.other) (has literals x.own) k).0)
      readings (all_still readings others parts.1))

-- ---- readings beside a table

abbrev is_read : List Reading → Literal → Literal → Bool
is_read readings l k = list_any (λ (x : Reading). is_same l x.own && is_same k x.other) readings

-- One of these literals is read as itself, and the others as the readings say.
abbrev reads_by : List Literal → List Reading → Literal → Literal → Bool
reads_by literals readings l k = (is_same l k && has literals l) || is_read readings l k

module _ (literals : List Literal) (readings : List Reading) (apart : are_apart literals readings ≡ true) where
  checks : (list_all keeps_sign readings ≡ true) × (list_all (is_apart literals readings) readings ≡ true)
  checks = and_parts (list_all keeps_sign readings) (list_all (is_apart literals readings) readings) apart

  -- it passes each test that all readings pass
  abbrev IsOf : Reading → Type 0
  IsOf x = (t : Reading → Bool) → list_all t readings ≡ true → t x ≡ true

  abbrev IsOwn : Reading → Type 0
  IsOwn x = (l : Literal) × (x ≡ itself l) × (has literals l ≡ true)

  -- one of the readings, or one of the literals read as itself
  abbrev Evidence : Literal → Literal → Type 0
  Evidence l k = (x : Reading) × (l ≡ x.own) × (k ≡ x.other) × (keeps_sign x ≡ true) × (IsOf x ⊎ IsOwn x)

  evidence : (l k : Literal) → reads_by literals readings l k ≡ true → Evidence l k
  evidence l k h = ⊎_elim
      (λ (e : (is_same l k && has literals l) ≡ true).
      let b = and_parts (is_same l k) (has literals l) e in
      (itself l, refl, sym (literal_is l k b.0), own_sign l.equal, inr (l, refl, b.1)))
      (λ (e : is_read readings l k ≡ true).
      let r = found readings (λ t a. a) e in
      (r.0, r.1, r.2, r.3 keeps_sign checks.0, inl r.3))
      (or_cases (is_same l k && has literals l) (is_read readings l k) h)
    where
      found : (xs : List Reading) → ((t : Reading → Bool) → list_all t readings ≡ true → list_all t xs ≡ true) → is_read xs l k ≡ true → (x : Reading) × (l ≡ x.own) × (k ≡ x.other) × IsOf x
      found [] w h = absurd (true≢false (sym h))
      found (x ∷ xs) w h = ⊎_elim
          (λ (e : (is_same l x.own && is_same k x.other) ≡ true).
          let b = and_parts (is_same l x.own) (is_same k x.other) e in
          (x, literal_is l x.own b.0, literal_is k x.other b.1, λ t a. (and_parts (t x) (list_all t xs) (w t a)).0))
          (λ (e : is_read xs l k ≡ true). found xs (λ t a. (and_parts (t x) (list_all t xs) (w t a)).1) e)
          (or_cases (is_same l x.own && is_same k x.other) (is_read xs l k) h)

  -- it is read as itself, or agrees with all
  knows : (x : Reading) → IsOf x ⊎ IsOwn x → (x.own ≡ x.other) ⊎ ((y : Reading) → IsOf y ⊎ IsOwn y → agree x y ≡ true)
  knows x (inr o) = inl (ap (λ (r : Reading). r.own) o.1 ∙ sym (ap (λ (r : Reading). r.other) o.1))
  knows x (inl i) = ⊎_elim
      (λ (e : is_same x.own x.other ≡ true). inl (literal_is x.own x.other e))
      (λ (e : agrees_with_all literals readings x ≡ true). inr (agrees (and_parts (list_all (agree x) readings) (agrees_with x literals) e)))
      (or_cases (is_same x.own x.other) (agrees_with_all literals readings x) (i (is_apart literals readings) checks.1))
    where
      agrees : (list_all (agree x) readings ≡ true) × (agrees_with x literals ≡ true) → (y : Reading) → IsOf y ⊎ IsOwn y → agree x y ≡ true
      agrees b y (inl j) = j (agree x) b.0
      agrees b y (inr o) = ap (agree x) o.1 ∙ passes (λ l. agree x (itself l)) literals o.0 b.1 o.2

  both_known : (x y : Reading) → keeps_sign x ≡ true → keeps_sign y ≡ true → IsOf x ⊎ IsOwn x → IsOf y ⊎ IsOwn y → Alike x y
  both_known x y s t i j = by (knows x i) (knows y j)
    where
      by : (x.own ≡ x.other) ⊎ ((z : Reading) → IsOf z ⊎ IsOwn z → agree x z ≡ true) → (y.own ≡ y.other) ⊎ ((z : Reading) → IsOf z ⊎ IsOwn z → agree y z ≡ true) → Alike x y
      by (inr f) g = alike x y s t (f y j)
      by (inl e) (inr g) = alike x y s t (agree_turned y x (g x i))
      by (inl e) (inl d) = (ap₂ (λ (l m : Literal). is_same l m) e d, ap₂ (λ (l m : Literal). opposed l m) e d)

  keeps_apart : KeepsApart (reads_by literals readings)
  keeps_apart l k m n a b =
      let x = evidence l k a in
      let y = evidence m n b in
      let r = both_known x.0 y.0 x.3 y.3 x.4 y.4 in (
        ap₂ (λ (p q : Literal). is_same p q) x.1 y.1 ∙ r.0 ∙ sym (ap₂ (λ (p q : Literal). is_same p q) x.2 y.2),
        ap₂ (λ (p q : Literal). opposed p q) x.1 y.1 ∙ r.1 ∙ sym (ap₂ (λ (p q : Literal). opposed p q) x.2 y.2),
      )

  own_reads : (patterns : List (List Literal)) → ((l : Literal) → list_any (λ p. has p l) patterns ≡ true → has literals l ≡ true) → AllReads (reads_by literals readings) patterns patterns
  own_reads patterns f = each patterns (λ l h. or_left (is_same l l && has literals l) (is_read readings l l) (and_from (is_same l l) (has literals l) (same_refl l) (f l h)))
    where
      one : (p : List Literal) → ((l : Literal) → has p l ≡ true → reads_by literals readings l l ≡ true) → Reads (reads_by literals readings) p p
      one [] f = tt
      one (l ∷ p) f = (f l (or_left (is_same l l) (has p l) (same_refl l)), one p (λ m h. f m (or_right (is_same m l) (has p m) h)))

      each : (ps : List (List Literal)) → ((l : Literal) → list_any (λ p. has p l) ps ≡ true → reads_by literals readings l l ≡ true) → AllReads (reads_by literals readings) ps ps
      each [] f = tt
      each (p ∷ ps) f = (
        one p (λ l h. f l (or_left (has p l) (list_any (λ p. has p l) ps) h)),
        each ps (λ l h. f l (or_right (has p l) (list_any (λ p. has p l) ps) h)),
      )

  shape_reads : (ps qs : List (List Literal)) → same_lengths ps qs ≡ true → ((l k : Literal) → is_read (readings_of ps qs) l k ≡ true → reads_by literals readings l k ≡ true) → AllReads (reads_by literals readings) ps qs
  shape_reads [] [] s f = tt
  shape_reads [] (q ∷ qs) s f = absurd (true≢false (sym s))
  shape_reads (p ∷ ps) [] s f = absurd (true≢false (sym s))
  shape_reads (p ∷ ps) (q ∷ qs) s f =
      let b = and_parts (nat_eq (length p) (length q)) (same_lengths ps qs) s in
      let test = λ (l k : Literal) (x : Reading). is_same l x.own && is_same k x.other in (
        one p q (eqb-true (length p) (length q) b.0) (λ l k h. f l k (list_any-append (test l k) (reading_of p q) (readings_of ps qs) ∙ or_left (is_read (reading_of p q) l k) (is_read (readings_of ps qs) l k) h)),
        shape_reads ps qs b.1 (λ l k h. f l k (list_any-append (test l k) (reading_of p q) (readings_of ps qs) ∙ or_right (is_read (reading_of p q) l k) (is_read (readings_of ps qs) l k) h)),
      )
    where
      one : (p q : List Literal) → length p ≡ length q → ((l k : Literal) → is_read (reading_of p q) l k ≡ true → reads_by literals readings l k ≡ true) → Reads (reads_by literals readings) p q
      one [] [] e f = tt
      one [] (k ∷ q) e f = absurd (omega (arith, e))
      one (l ∷ p) [] e f = absurd (omega (arith, e))
      one (l ∷ p) (k ∷ q) e f = (
        f l k (or_left (is_same l l && is_same k k) (is_read (reading_of p q) l k) (and_from (is_same l l) (is_same k k) (same_refl l) (same_refl k))),
        one p q (omega (arith, e)) (λ m n h. f m n (or_right (is_same m l && is_same n k) (is_read (reading_of p q) m n) h)),
      )

-- each literal of patterns is listed
pub listed : (ps : List (List Literal)) (ls : List Literal) (l : Literal) → (has ls l ≡ true) ⊎ (list_any (λ p. has p l) ps ≡ true) → has (fold (fold with_literal) ls ps) l ≡ true
listed [] ls l (inl h) = h
listed [] ls l (inr h) = absurd (true≢false (sym h))
listed (p ∷ ps) ls l (inl h) = listed ps (fold with_literal ls p) l (inl (has_fold p ls l ∙ or_left (has ls l) (has p l) h))
listed (p ∷ ps) ls l (inr h) = listed ps (fold with_literal ls p) l (⊎_elim
    (λ (e : has p l ≡ true). inl (has_fold p ls l ∙ or_right (has ls l) (has p l) e))
    (λ (e : list_any (λ p. has p l) ps ≡ true). inr e)
    (or_cases (has p l) (list_any (λ p. has p l) ps) h))

-- a table that refuses the one shape refuses the other
fitting : RowsAreCounted → (rows : ℕ) (patterns known shape : List (List Literal)) → same_lengths known shape ≡ true → are_apart (literals_of patterns) (readings_of known shape) ≡ true → Refuses rows patterns known → Refuses rows patterns shape
fitting counted rows patterns known shape s h refuses a b e f =
    let literals = literals_of patterns in
    let readings = readings_of known shape in
    let reads = reads_by literals readings in
    let own : AllReads reads (patterns_of a) (patterns_of a) =
    subst (λ (ps : List (List Literal)). AllReads reads ps ps) (sym e) (own_reads literals readings h patterns (λ l i. listed patterns [] l (inr i))) in
    let others : AllReads reads known shape = shape_reads literals readings h known shape s (λ l k i. or_right (is_same l k && has literals l) (is_read readings l k) i) in
    let more : AllReads reads (patterns_of (bare known)) (patterns_of b) =
    subst (λ (ps : List (List Literal)). AllReads reads ps (patterns_of b)) (sym (bare_patterns known)) (subst (λ (qs : List (List Literal)). AllReads reads known qs) (sym f) others) in
    let same : length (product a (bare known)) ≡ length (product a b) = counted.read_otherwise reads (keeps_apart literals readings h) a (bare known) a b own more in
    let few : rows < length (product a (bare known)) = refuses a (bare known) e (bare_patterns known) in
    omega (arith, same, few)

-- the same with the literals of the table
pub fitting_of : RowsAreCounted → (rows : ℕ) (patterns : List (List Literal)) (literals : List Literal) (known shape : List (List Literal)) → literals ≡ literals_of patterns →
    same_lengths known shape ≡ true → are_apart literals (readings_of known shape) ≡ true → Refuses rows patterns known → Refuses rows patterns shape
fitting_of counted rows patterns literals known shape e s h =
    fitting counted rows patterns known shape s (subst (λ (x : List Literal). are_apart x (readings_of known shape) ≡ true) e h)

-- one of the shapes that were refused
pub item_refuses : (rows : ℕ) (patterns : List (List Literal)) (shapes list : List (List (List Literal))) (i : ℕ) (s : List (List Literal)) → list ≡ shapes → All (Refuses rows patterns) shapes → i < length list → s ≡ slice_index_or list i s → Refuses rows patterns s
item_refuses rows patterns shapes list i s e all there is =
    let here : All (Refuses rows patterns) list = subst (All (Refuses rows patterns)) (sym e) all in
    subst (Refuses rows patterns) (sym is) (here i s there)

-- ---- loops over patterns

first_of : {A : Type 0} (xs : List A) (i : ℕ) (d : A) → i < length xs → drop i xs ≡ slice_index_or xs i d ∷ drop (i + 1) xs
first_of xs i d h = drop-cons xs i d h ∙ ap (λ n. slice_index_or xs i d ∷ drop n xs) (sym (add-one i))

head_of : {A : Type 0} (i : ℕ) (xs : List A) (x : A) → i < length xs → x ≡ slice_index_or xs i x → drop i xs ≡ x ∷ drop (i + 1) xs
head_of i xs x h e = first_of xs i x h ∙ ap (λ z. z ∷ drop (i + 1) xs) (sym e)

abbrev reading : Literal → Literal → Reading
reading l k = record { own = l; other = k }

pub reading_turn : (p q : List Literal) (i : ℕ) (d e : Literal) (rs now : List Reading) → i < length p → i < length q → now ≡ rs ++ reading (slice_index_or p i d) (slice_index_or q i e) ∷ [] →
    now ++ reading_of (drop (i + 1) p) (drop (i + 1) q) ≡ rs ++ reading_of (drop i p) (drop i q)
reading_turn p q i d e rs now h g n =
    ap (λ (r : List Reading). r ++ reading_of (drop (i + 1) p) (drop (i + 1) q)) n
    ∙ append_assoc rs (reading (slice_index_or p i d) (slice_index_or q i e) ∷ []) (reading_of (drop (i + 1) p) (drop (i + 1) q))
    ∙ ap (λ (r : List Reading). rs ++ r) (sym (ap₂ (λ (x y : List Literal). reading_of x y) (first_of p i d h) (first_of q i e g)))

pub reading_end : (p q : List Literal) (i : ℕ) (rs : List Reading) → length p ≤ i → rs ++ reading_of (drop i p) (drop i q) ≡ rs
reading_end p q i rs h = ap (λ (x : List Literal). rs ++ reading_of x (drop i q)) (drop_of_length-le p h) ∙ append-nil rs

pub readings_turn : (ps qs : List (List Literal)) (i : ℕ) (p q : List Literal) (rs now : List Reading) → i < length ps → i < length qs → p ≡ slice_index_or ps i p → q ≡ slice_index_or qs i q → now ≡ rs ++ reading_of p q →
    now ++ readings_of (drop (i + 1) ps) (drop (i + 1) qs) ≡ rs ++ readings_of (drop i ps) (drop i qs)
readings_turn ps qs i p q rs now h g e d n =
    ap (λ (r : List Reading). r ++ readings_of (drop (i + 1) ps) (drop (i + 1) qs)) n
    ∙ append_assoc rs (reading_of p q) (readings_of (drop (i + 1) ps) (drop (i + 1) qs))
    ∙ ap (λ (r : List Reading). rs ++ r) (sym (ap₂ (λ (x y : List (List Literal)). readings_of x y) (head_of i ps p h e) (head_of i qs q g d)))

pub lengths_turn : (ps qs : List (List Literal)) (i : ℕ) (p q : List Literal) → i < length ps → i < length qs → p ≡ slice_index_or ps i p → q ≡ slice_index_or qs i q → length p ≡ length q →
    same_lengths (drop (i + 1) ps) (drop (i + 1) qs) ≡ same_lengths (drop i ps) (drop i qs)
lengths_turn ps qs i p q h g e d n =
    sym (ap₂ (λ (x y : List (List Literal)). same_lengths x y) (head_of i ps p h e) (head_of i qs q g d)
    ∙ ap (λ (b : Bool). b && same_lengths (drop (i + 1) ps) (drop (i + 1) qs)) (eq-eqb (length p) (length q) n))

pub readings_end : (ps qs : List (List Literal)) (i : ℕ) (rs : List Reading) → length ps ≤ i → rs ++ readings_of (drop i ps) (drop i qs) ≡ rs
readings_end ps qs i rs h = ap (λ (x : List (List Literal)). rs ++ readings_of x (drop i qs)) (drop_of_length-le ps h) ∙ append-nil rs

pub lengths_end : (ps qs : List (List Literal)) (i : ℕ) → length ps ≤ i → length qs ≤ i → same_lengths (drop i ps) (drop i qs) ≡ true
lengths_end ps qs i h g = ap₂ (λ (x y : List (List Literal)). same_lengths x y) (drop_of_length-le ps h) (drop_of_length-le qs g)

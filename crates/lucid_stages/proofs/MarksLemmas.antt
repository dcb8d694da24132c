-- The meaning of marks of fields: the positions of their writers.
use Rattle.std.proofs.Common.{◌≡◌, ◌≢◌, ℕ, zero, suc, ◌+◌, ◌-◌, ◌<◌, ◌≤◌, max, List, [], ◌∷◌, Bool, true, false, ◌||◌, drop, length, nat_eq, nat_lt, replicate, slice_index, slice_index_or, slice_set, refl, sym, ap, subst, ◌∙◌, ⊎_elim, add-one, drop-cons, arith}
use Rattle.std.specs.List.{list_any, AllByRecursion}
use Rattle.std.proofs.lemmas.Bool.{or_cases, or_parts, or_from, or_left, or_right, eq-eqb, eqb-true, true≢false, lt-ltb, le-ltb, cases_lt}
use Rattle.std.proofs.lemmas.List.{get_or-set_same, get_or-set_other, length-set}
use Rattle.lucid_tables.specs.Numbers.{is_in}
use Rattle.lucid_stages.specs.declared.stage.Seat.{Seat}
use Rattle.lucid_stages.specs.declared.node.Work.{Work}
use Rattle.lucid_stages.specs.Marks.{Behind, fed_by, raised, lowest, floor, Within, zeros, end_marks}

pub head_of : {A : Type 0} (i : ℕ) (xs : List A) (x : A) → i < length xs → x ≡ slice_index_or xs i x → drop i xs ≡ x ∷ drop (i + 1) xs
head_of i xs x h e = drop-cons xs i x h ∙ ap (λ z. z ∷ drop (suc i) xs) (sym e) ∙ ap (λ n. x ∷ drop n xs) (sym (add-one i))

pub raised_length : (low ws : List ℕ) (to : ℕ) → length (raised low ws to) ≡ length low
raised_length low [] to = refl
raised_length low (w ∷ ws) to = raised_length (slice_set low w (max (slice_index low w) to)) ws to ∙ length-set low w _

pub length_zeros : {A : Type 0} (m : ℕ) (x : A) → length (replicate m x) ≡ m
length_zeros zero x = refl
length_zeros (suc m) x = ap suc (length_zeros m x)

-- ---- a write

-- the meaning of a write to one field for a field
one_to : (low : List ℕ) (w to f k : ℕ) → w < length low → slice_index (slice_set low w (max (slice_index low w) to)) f ≤ k → (t : Bool) → nat_eq w f ≡ t → (slice_index low f ≤ k) × (t ≡ true → to ≤ k)
one_to low w to f k h l true e =
    let same : w ≡ f = eqb-true w f e in
    let m : max (slice_index low w) to ≤ k = subst (λ v. v ≤ k) (ap (λ j. slice_index (slice_set low w (max (slice_index low w) to)) j) (sym same) ∙ get_or-set_same low w _ 0 h) l in
    (subst (λ j. slice_index low j ≤ k) same (omega (arith, m)), λ _. omega (arith, m))
one_to low w to f k h l false e =
    let other : f ≢ w = λ s. true≢false (sym (eq-eqb w f (sym s)) ∙ e) in
    (subst (λ v. v ≤ k) (get_or-set_other low w f _ 0 other) l, λ n. absurd (true≢false (sym n)))

one_from : (low : List ℕ) (w to f k : ℕ) → w < length low → slice_index low f ≤ k → (t : Bool) → nat_eq w f ≡ t → (t ≡ true → to ≤ k) → slice_index (slice_set low w (max (slice_index low w) to)) f ≤ k
one_from low w to f k h l true e n =
    let same : w ≡ f = eqb-true w f e in
    let v : slice_index low w ≤ k = subst (λ j. slice_index low j ≤ k) (sym same) l in
    let u : to ≤ k = n refl in
    subst (λ v. v ≤ k) (sym (ap (λ j. slice_index (slice_set low w (max (slice_index low w) to)) j) (sym same) ∙ get_or-set_same low w _ 0 h)) (omega (arith, v, u))
one_from low w to f k h l false e n =
    let other : f ≢ w = λ s. true≢false (sym (eq-eqb w f (sym s)) ∙ e) in
    subst (λ v. v ≤ k) (sym (get_or-set_other low w f _ 0 other)) l

either_le : (s t : Bool) (A : Type 0) → (s ≡ true → A) → (t ≡ true → A) → (s || t) ≡ true → A
either_le s t A f g h = ⊎_elim f g (or_cases s t h)

raised_to : (low ws : List ℕ) (to f k : ℕ) → Within (length low) ws → slice_index (raised low ws to) f ≤ k → (slice_index low f ≤ k) × (is_in f ws ≡ true → to ≤ k)
raised_to low [] to f k w l = (l, λ n. absurd (true≢false (sym n)))
raised_to low (x ∷ ws) to f k w l =
    let next = slice_set low x (max (slice_index low x) to) in
    let rest = raised_to next ws to f k (subst (λ m. Within m ws) (sym (length-set low x _)) w.1) l in
    let one = one_to low x to f k w.0 rest.0 (nat_eq x f) refl in
    (one.0, either_le (nat_eq x f) (is_in f ws) (to ≤ k) one.1 rest.1)

raised_from : (low ws : List ℕ) (to f k : ℕ) → Within (length low) ws → slice_index low f ≤ k → (is_in f ws ≡ true → to ≤ k) → slice_index (raised low ws to) f ≤ k
raised_from low [] to f k w l n = l
raised_from low (x ∷ ws) to f k w l n =
    let next = slice_set low x (max (slice_index low x) to) in
    raised_from next ws to f k (subst (λ m. Within m ws) (sym (length-set low x _)) w.1)
    (one_from low x to f k w.0 l (nat_eq x f) refl (λ e. n (or_left (nat_eq x f) (is_in f ws) e)))
    (λ e. n (or_right (nat_eq x f) (is_in f ws) e))

-- ---- the least stage

floor_to : (low ws : List ℕ) (to k : ℕ) (reads : List ℕ) → Within (length low) ws → floor (raised low ws to) reads ≤ k → (floor low reads ≤ k) × (list_any (λ f. is_in f ws) reads ≡ true → to ≤ k)
floor_to low ws to k [] w l = (omega arith, λ n. absurd (true≢false (sym n)))
floor_to low ws to k (f ∷ fs) w l =
    let here : slice_index (raised low ws to) f ≤ k = omega (arith, l) in
    let there : floor (raised low ws to) fs ≤ k = omega (arith, l) in
    let a = raised_to low ws to f k w here in
    let b = floor_to low ws to k fs w there in
    (omega (arith, a.0, b.0), either_le (is_in f ws) (list_any (λ f. is_in f ws) fs) (to ≤ k) a.1 b.1)

floor_from : (low ws : List ℕ) (to k : ℕ) (reads : List ℕ) → Within (length low) ws → floor low reads ≤ k → (list_any (λ f. is_in f ws) reads ≡ true → to ≤ k) → floor (raised low ws to) reads ≤ k
floor_from low ws to k [] w l n = l
floor_from low ws to k (f ∷ fs) w l n =
    let here : slice_index low f ≤ k = omega (arith, l) in
    let there : floor low fs ≤ k = omega (arith, l) in
    omega (arith, raised_from low ws to f k w here (λ e. n (or_left (is_in f ws) (list_any (λ f. is_in f ws) fs) e)), floor_from low ws to k fs w there (λ e. n (or_right (is_in f ws) (list_any (λ f. is_in f ws) fs) e)))

-- the writes of those that have a place are fields
abbrev pub Written : ℕ → List Seat → Type 0
Written fields done = AllByRecursion (λ s. Within fields s.node.writes) done

pub behind_to : (low : List ℕ) (done : List Seat) (n : Work) (k : ℕ) → Written (length low) done → floor (lowest low done) n.reads ≤ k → (floor low n.reads ≤ k) × Behind done n k
behind_to low [] n k w l = (l, tt)
behind_to low (s ∷ ss) n k w l =
    let next = raised low s.node.writes (s.at.stage + 1) in
    let rest = behind_to next ss n k (subst (λ m. Written m ss) (sym (raised_length low s.node.writes _)) w.1) l in
    let one = floor_to low s.node.writes (s.at.stage + 1) k n.reads w.0 rest.0 in
    (one.0, ((λ e. omega (arith, one.1 e)), rest.1))

pub behind_from : (low : List ℕ) (done : List Seat) (n : Work) (k : ℕ) → Written (length low) done → floor low n.reads ≤ k → Behind done n k → floor (lowest low done) n.reads ≤ k
behind_from low [] n k w l b = l
behind_from low (s ∷ ss) n k w l b =
    let next = raised low s.node.writes (s.at.stage + 1) in
    behind_from next ss n k (subst (λ m. Written m ss) (sym (raised_length low s.node.writes _)) w.1)
    (floor_from low s.node.writes (s.at.stage + 1) k n.reads w.0 l (λ e. omega (arith, b.0 e))) b.1

pub zero_at : (m f : ℕ) → slice_index (zeros m) f ≡ 0
zero_at zero f = refl
zero_at (suc m) zero = refl
zero_at (suc m) (suc f) = zero_at m f

pub floor_zero : (m k : ℕ) (reads : List ℕ) → floor (zeros m) reads ≤ k
floor_zero m k [] = omega arith
floor_zero m k (f ∷ fs) = omega (arith, zero_at m f, floor_zero m k fs)

-- ---- the last that writes a field

-- one node more is marked
pub ends_turn : (fields at : ℕ) (ns : List Work) (ends after whole : List ℕ) (n : Work) → at < length ns → n ≡ slice_index_or ns at n → length ends ≡ fields → AllByRecursion (λ w. Within fields w.writes) (drop at ns) →
    end_marks ends at (drop at ns) ≡ whole → after ≡ raised ends n.writes (at + 1) →
    (length after ≡ fields) × AllByRecursion (λ w. Within fields w.writes) (drop (at + 1) ns) × (end_marks after (at + 1) (drop (at + 1) ns) ≡ whole)
ends_turn fields at ns ends after whole n h e l a w r =
    let split = head_of at ns n h e in (
      ap length r ∙ raised_length ends n.writes (at + 1) ∙ l,
      (subst (λ ds. AllByRecursion (λ w. Within fields w.writes) ds) split a).1,
      ap (λ x. end_marks x (at + 1) (drop (at + 1) ns)) r ∙ sym (ap (end_marks ends at) split) ∙ w,
    )

abbrev writes : ℕ → Work → Bool
writes k w = is_in k w.writes

-- the mark is no greater than i exactly where it was, and none from node i on writes the field
marks_to : (ends : List ℕ) (at : ℕ) (ns : List Work) (k i : ℕ) → AllByRecursion (λ w. Within (length ends) w.writes) ns → slice_index (end_marks ends at ns) k ≤ i →
    (slice_index ends k ≤ i) × (list_any (writes k) (drop (i - at) ns) ≡ false)
marks_to ends at [] k i w l = (l, none (i - at))
  where
    none : (j : ℕ) → list_any (writes k) (drop j []) ≡ false
    none zero = refl
    none (suc j) = refl
marks_to ends at (n ∷ ns) k i w l =
    let next = raised ends n.writes (at + 1) in
    let rest = marks_to next (at + 1) ns k i (subst (λ m. AllByRecursion (λ w. Within m w.writes) ns) (sym (raised_length ends n.writes (at + 1))) w.1) l in
    let one = raised_to ends n.writes (at + 1) k i w.0 rest.0 in
    (one.0, ⊎_elim (λ (b : at < i). past b rest.1) (λ (b : i ≤ at). here b rest.1 one.1) (cases_lt at i))
  where
    past : at < i → list_any (writes k) (drop (i - (at + 1)) ns) ≡ false → list_any (writes k) (drop (i - at) (n ∷ ns)) ≡ false
    past b r = let e : i - at ≡ suc (i - (at + 1)) = omega arith in ap (λ j. list_any (writes k) (drop j (n ∷ ns))) e ∙ r

    here : i ≤ at → list_any (writes k) (drop (i - (at + 1)) ns) ≡ false → (writes k n ≡ true → at + 1 ≤ i) → list_any (writes k) (drop (i - at) (n ∷ ns)) ≡ false
    here b r u =
        let e : i - at ≡ 0 = omega arith in
        let f : i - (at + 1) ≡ 0 = omega arith in
        ap (λ j. list_any (writes k) (drop j (n ∷ ns))) e
        ∙ or_from (writes k n) (list_any (writes k) ns) (by (writes k n) refl) (ap (λ j. list_any (writes k) (drop j ns)) (sym f) ∙ r)
      where
        by : (t : Bool) → writes k n ≡ t → writes k n ≡ false
        by true s = absurd (omega (arith, b, u s))
        by false s = s

marks_from : (ends : List ℕ) (at : ℕ) (ns : List Work) (k i : ℕ) → AllByRecursion (λ w. Within (length ends) w.writes) ns → slice_index ends k ≤ i → list_any (writes k) (drop (i - at) ns) ≡ false →
    slice_index (end_marks ends at ns) k ≤ i
marks_from ends at [] k i w l h = l
marks_from ends at (n ∷ ns) k i w l h =
    let next = raised ends n.writes (at + 1) in
    let inside = subst (λ m. AllByRecursion (λ w. Within m w.writes) ns) (sym (raised_length ends n.writes (at + 1))) w.1 in
    ⊎_elim
    (λ (b : at < i). marks_from next (at + 1) ns k i inside (raised_from ends n.writes (at + 1) k i w.0 l (λ s. omega (arith, b))) (past b h))
    (λ (b : i ≤ at). let p = or_parts (writes k n) (list_any (writes k) ns) (here b h) in marks_from next (at + 1) ns k i inside (raised_from ends n.writes (at + 1) k i w.0 l (λ s. absurd (true≢false (sym s ∙ p.0)))) (rest b p.1))
    (cases_lt at i)
  where
    past : at < i → list_any (writes k) (drop (i - at) (n ∷ ns)) ≡ false → list_any (writes k) (drop (i - (at + 1)) ns) ≡ false
    past b r = let e : i - at ≡ suc (i - (at + 1)) = omega arith in sym (ap (λ j. list_any (writes k) (drop j (n ∷ ns))) e) ∙ r

    here : i ≤ at → list_any (writes k) (drop (i - at) (n ∷ ns)) ≡ false → (writes k n || list_any (writes k) ns) ≡ false
    here b r = let e : i - at ≡ 0 = omega arith in sym (ap (λ j. list_any (writes k) (drop j (n ∷ ns))) e) ∙ r

    rest : i ≤ at → list_any (writes k) ns ≡ false → list_any (writes k) (drop (i - (at + 1)) ns) ≡ false
    rest b r = let f : i - (at + 1) ≡ 0 = omega arith in ap (λ j. list_any (writes k) (drop j ns)) f ∙ r

within_zeros : (fields : ℕ) (ns : List Work) → AllByRecursion (λ w. Within fields w.writes) ns → AllByRecursion (λ w. Within (length (zeros fields)) w.writes) ns
within_zeros fields ns a = subst (λ m. AllByRecursion (λ w. Within m w.writes) ns) (sym (length_zeros fields 0)) a

-- a mark is past i exactly where a node from i on writes the field
pub past_mark : (fields : ℕ) (ns : List Work) (k i : ℕ) → AllByRecursion (λ w. Within fields w.writes) ns → nat_lt i (slice_index (end_marks (zeros fields) 0 ns) k) ≡ list_any (writes k) (drop i ns)
past_mark fields ns k i a = by (list_any (writes k) (drop i ns)) refl
  where
    mark : ℕ
    mark = slice_index (end_marks (zeros fields) 0 ns) k

    none : i - 0 ≡ i
    none = omega arith

    by : (t : Bool) → list_any (writes k) (drop i ns) ≡ t → nat_lt i (slice_index (end_marks (zeros fields) 0 ns) k) ≡ list_any (writes k) (drop i ns)
    by true e = ⊎_elim (λ (l : i < mark). lt-ltb i mark l ∙ sym e)
        (λ (l : mark ≤ i). absurd (true≢false (sym e ∙ ap (λ j. list_any (writes k) (drop j ns)) (sym none) ∙ (marks_to (zeros fields) 0 ns k i (within_zeros fields ns a) l).1)))
        (cases_lt i mark)
    by false e =
        le-ltb i mark (marks_from (zeros fields) 0 ns k i (within_zeros fields ns a) (omega (arith, zero_at fields k)) (ap (λ j. list_any (writes k) (drop j ns)) none ∙ e))
        ∙ sym e

-- two orders of asking
any_or : {A : Type 0} (f g : A → Bool) (xs : List A) → list_any (λ x. f x || g x) xs ≡ (list_any f xs || list_any g xs)
any_or f g [] = refl
any_or f g (x ∷ xs) = ap (λ b. (f x || g x) || b) (any_or f g xs) ∙ swap (f x) (g x) (list_any f xs) (list_any g xs)
  where
    swap : (a b c d : Bool) → ((a || b) || (c || d)) ≡ ((a || c) || (b || d))
    swap true b c d = refl
    swap false true true d = refl
    swap false true false d = refl
    swap false false c d = refl

no_any : {A : Type 0} (xs : List A) → list_any (λ x. false) xs ≡ false
no_any [] = refl
no_any (x ∷ xs) = no_any xs

fed_swapped : (ns : List Work) (ks : List ℕ) → list_any (λ w. list_any (λ k. is_in k w.writes) ks) ns ≡ list_any (λ k. list_any (writes k) ns) ks
fed_swapped ns [] = no_any ns
fed_swapped ns (k ∷ ks) = any_or (writes k) (λ w. list_any (λ j. is_in j w.writes) ks) ns ∙ ap (λ b. list_any (writes k) ns || b) (fed_swapped ns ks)

any_same : (f g : ℕ → Bool) (ks : List ℕ) → ((k : ℕ) → f k ≡ g k) → list_any f ks ≡ list_any g ks
any_same f g [] h = refl
any_same f g (k ∷ ks) h = ap (λ b. b || list_any f ks) (h k) ∙ ap (λ b. g k || b) (any_same f g ks h)

-- a field that a node reads is written from node i on
pub fed_by_marks : (fields : ℕ) (ns : List Work) (n : Work) (i : ℕ) → AllByRecursion (λ w. Within fields w.writes) ns → list_any (λ k. nat_lt i (slice_index (end_marks (zeros fields) 0 ns) k)) n.reads ≡ fed_by (drop i ns) n
fed_by_marks fields ns n i a =
    any_same (λ k. nat_lt i (slice_index (end_marks (zeros fields) 0 ns) k)) (λ k. list_any (writes k) (drop i ns)) n.reads (λ k. past_mark fields ns k i a) ∙ sym (fed_swapped (drop i ns) n.reads)

-- Nodes are in the order of their operations' keys, so if operations follow their reads, so do nodes.
use Rattle.std.proofs.Common.{◌≡◌, ℕ, zero, suc, ◌+◌, ◌<◌, ◌≤◌, List, [], ◌∷◌, ◌++◌, Bool, true, false, not, ◌&&◌, ◌||◌, ◌⊎◌, inl, inr, cond, Option, Some, None, map, nat_eq, nat_lt, slice_get, refl, sym, ap, subst, ◌∙◌, ⊎_elim, arith}
use Rattle.std.specs.List.{filter, flat_map, list_all, list_any, enumerate_from, AllByRecursion}
use Rattle.std.specs.Option.{option_map_or, option_to_list}
use Rattle.std.proofs.lemmas.Bool.{and_parts, or_cases, or_from, or_left, or_right, eqb-true, eq-eqb, true≢false, not-true, false_from_ne_true, ltb-true}
use Rattle.std.proofs.lemmas.Option.{same_Some}
use Rattle.lucid_code.specs.declared.op.Op.{Op}
use Rattle.lucid_code.specs.Nodes.{is_one_node, stands_before, reads_from, nodes_follow_writes, with_key, nodes}
use Rattle.lucid_code.specs.Uses.{written_by, called_by, read_by, is_same, writes, key_of}
use Rattle.lucid_tables.specs.Numbers.{is_in, rises, rising}
use Rattle.lucid_tables.proofs.Members.{In, all_in}
use Rattle.lucid_tables.proofs.Rising.{with_numbers_rise}
use Rattle.lucid_conf.specs.declared.limits.Limits.{Limits}
use Rattle.lucid_stages.specs.declared.stage.Seat.{Seat}
use Rattle.lucid_code.specs.declared.node.Node.{Node}
use Rattle.lucid_code.specs.declared.node.Node.TheVariants.{Pure, Array}
use Rattle.lucid_stages.specs.declared.node.Work.{Work}
use Rattle.lucid_stages.specs.Marks.{feeds, fed_by}
use Rattle.lucid_layout.specs.Fit.{IsStuck, NoRoom}
use Rattle.lucid_layout_laws.specs.Laws.{StuckForRoom}
use Rattle.lucid_stages.specs.NodeWorks.{places_of, reads_at, writes_at, work_of, works}
use Rattle.lucid_stages.proofs.NodeWorksLemmas.{in_enum, of_flat, in_number, of_firsts, shared_out, firsts}

-- R holds of each item and each later one
abbrev Pairs : {A : Type 0} → (A → A → Type 0) → List A → Type 0
Pairs R [] = Unit {0}
Pairs R (x ∷ xs) = AllByRecursion (R x) xs × Pairs R xs

each_in : {A : Type 0} (P : A → Type 0) (xs : List A) → ((x : A) → In x xs → P x) → AllByRecursion P xs
each_in P [] h = tt
each_in P (x ∷ xs) h = (h x (inl refl), each_in P xs (λ y i. h y (inr i)))

in_each : {A : Type 0} (P : A → Type 0) (xs : List A) (x : A) → AllByRecursion P xs → In x xs → P x
in_each P [] x a i = absurd i
in_each P (y ∷ xs) x a (inl e) = subst P (sym e) a.0
in_each P (y ∷ xs) x a (inr i) = in_each P xs x a.1 i

in_both : {A : Type 0} (x : A) (xs ys : List A) → In x (xs ++ ys) → In x xs ⊎ In x ys
in_both x [] ys h = inr h
in_both x (y ∷ xs) ys (inl e) = inl (inl e)
in_both x (y ∷ xs) ys (inr h) = ⊎_elim (λ e. inl (inr e)) (λ e. inr e) (in_both x xs ys h)

left_in : {A : Type 0} (x : A) (xs ys : List A) → In x xs → In x (xs ++ ys)
left_in x [] ys h = absurd h
left_in x (y ∷ xs) ys (inl e) = inl e
left_in x (y ∷ xs) ys (inr h) = inr (left_in x xs ys h)

right_in : {A : Type 0} (x : A) (xs ys : List A) → In x ys → In x (xs ++ ys)
right_in x [] ys h = h
right_in x (y ∷ xs) ys h = inr (right_in x xs ys h)

number_in : (i : ℕ) (xs : List ℕ) → is_in i xs ≡ true → In i xs
number_in i [] h = absurd (true≢false (sym h))
number_in i (x ∷ xs) h = ⊎_elim (λ e. inl (sym (eqb-true x i e))) (λ e. inr (number_in i xs e)) (or_cases (nat_eq x i) (is_in i xs) h)

pairs_join : {A : Type 0} (R : A → A → Type 0) (xs ys : List A) → Pairs R xs → Pairs R ys → ((x y : A) → In x xs → In y ys → R x y) → Pairs R (xs ++ ys)
pairs_join R [] ys a b c = b
pairs_join R (x ∷ xs) ys a b c = (
  each_in (R x) (xs ++ ys) (λ y i. ⊎_elim (λ j. in_each (R x) xs y a.0 j) (λ j. c x y (inl refl) j) (in_both y xs ys i)),
  pairs_join R xs ys a.1 b (λ u v i j. c u v (inr i) j),
)

pairs_across : {A : Type 0} (R : A → A → Type 0) (xs ys : List A) → Pairs R (xs ++ ys) → (x y : A) → In x xs → In y ys → R x y
pairs_across R [] ys a x y i j = absurd i
pairs_across R (z ∷ xs) ys a x y (inl e) j = subst (λ z. R z y) (sym e) (in_each (R z) (xs ++ ys) y a.0 (right_in y xs ys j))
pairs_across R (z ∷ xs) ys a x y (inr i) j = pairs_across R xs ys a.1 x y i j

pairs_behind : {A : Type 0} (R : A → A → Type 0) (xs ys : List A) → Pairs R (xs ++ ys) → Pairs R ys
pairs_behind R [] ys a = a
pairs_behind R (x ∷ xs) ys a = pairs_behind R xs ys a.1

-- ---- the order of operations

-- operation i precedes operation j: it has a smaller key, or the same and a smaller position
abbrev Before : List Op → ℕ → ℕ → Type 0
Before ops i j = (o p : Op) → slice_get ops i ≡ Some o → slice_get ops j ≡ Some p → (key_of o < key_of p) ⊎ ((key_of o ≡ key_of p) × (i < j))

enum_rises : (t : ℕ × Op → Bool) (os : List Op) (n : ℕ) → Pairs (λ i j. i < j) (firsts (filter t (enumerate_from n os))) × AllByRecursion (λ i. n ≤ i) (firsts (filter t (enumerate_from n os)))
enum_rises t [] n = (tt, tt)
enum_rises t (o ∷ os) n = by (t (n, o)) (enum_rises t os (n + 1))
  where
    lower : (xs : List ℕ) → AllByRecursion (λ i. n + 1 ≤ i) xs → AllByRecursion (λ i. n < i) xs × AllByRecursion (λ i. n ≤ i) xs
    lower [] a = (tt, tt)
    lower (x ∷ xs) a = let r = lower xs a.1 in let h : n + 1 ≤ x = a.0 in ((omega (arith, h), r.0), (omega (arith, h), r.1))

    by : (b : Bool) → Pairs (λ i j. i < j) (firsts (filter t (enumerate_from (n + 1) os))) × AllByRecursion (λ i. n + 1 ≤ i) (firsts (filter t (enumerate_from (n + 1) os))) →
        Pairs (λ i j. i < j) (firsts (cond b ((n, o) ∷ filter t (enumerate_from (n + 1) os)) (filter t (enumerate_from (n + 1) os)))) × AllByRecursion (λ i. n ≤ i) (firsts (cond b ((n, o) ∷ filter t (enumerate_from (n + 1) os)) (filter t (enumerate_from (n + 1) os))))
    by true h = let l = lower (firsts (filter t (enumerate_from (n + 1) os))) h.1 in ((l.0, h.0), (omega arith, l.1))
    by false h = (h.0, (lower (firsts (filter t (enumerate_from (n + 1) os))) h.1).1)

abbrev of_key : List Op → ℕ → List ℕ
of_key ops key = firsts (with_key key (enumerate_from 0 ops))

-- the key of an operation of a key
key_is : (ops : List Op) (key i : ℕ) (o : Op) → In i (of_key ops key) → slice_get ops i ≡ Some o → key_of o ≡ key
key_is ops key i o h e =
    let r = of_firsts (λ (o : ℕ × Op). nat_eq (key_of o.1) key) ops i (in_number i (of_key ops key) h) in
    ap key_of (same_Some o r.0 (sym e ∙ r.1)) ∙ eqb-true (key_of r.0) key r.2

pairs_same : {A : Type 0} (R S : A → A → Type 0) (xs : List A) → Pairs R xs → ((x y : A) → In x xs → In y xs → R x y → S x y) → Pairs S xs
pairs_same R S [] a h = tt
pairs_same R S (x ∷ xs) a h = (
  each_in (S x) xs (λ y i. h x y (inl refl) (inr i) (in_each (R x) xs y a.0 i)),
  pairs_same R S xs a.1 (λ u v i j r. h u v (inr i) (inr j) r),
)

keys_before : (ops : List Op) (keys : List ℕ) → rises keys ≡ true → Pairs (Before ops) (flat_map (of_key ops) keys)
keys_before ops [] r = tt
keys_before ops (k ∷ keys) r =
    let parts = and_parts (list_all (nat_lt k) keys) (rises keys) r in
    pairs_join (Before ops) (of_key ops k) (flat_map (of_key ops) keys)
    (pairs_same (λ i j. i < j) (Before ops) (of_key ops k) (enum_rises (λ (o : ℕ × Op). nat_eq (key_of o.1) k) ops 0).0
    (λ i j a b l o p e f. inr (key_is ops k i o a e ∙ sym (key_is ops k j p b f), l)))
    (keys_before ops keys parts.1)
    (λ i j a b o p e f.
    let q = of_flat (of_key ops) keys j (in_number j (flat_map (of_key ops) keys) b) in
    let below : k < q.0 = ltb-true k q.0 (all_in (nat_lt k) keys parts.0 q.0 q.1) in
    let first : key_of o ≡ k = key_is ops k i o a e in
    let second : key_of p ≡ q.0 = key_is ops q.0 j p (number_in j (of_key ops q.0) q.2) f in
    inl (omega (arith, below, first, second)))

works_before : (ops : List Op) → Pairs (Before ops) (flat_map (λ (w : Work). w.ops) (works ops))
works_before ops = subst (Pairs (Before ops)) (sym (shared_out ops)) (keys_before ops (rising (map key_of ops)) (with_numbers_rise (map key_of ops) [] refl))

-- ---- readers and writers among the operations

read_of : (ops : List Op) (places : List ℕ) (f : ℕ) → is_in f (reads_at ops places) ≡ true → (i : ℕ) × (o : Op) × (is_in i places ≡ true) × (slice_get ops i ≡ Some o) × (is_in f (read_by o) ≡ true)
read_of ops places f h =
    let r = of_flat (λ i. option_map_or read_by (slice_get ops i) []) places f h in
    by r.0 (in_number r.0 places r.1) (slice_get ops r.0) refl r.2
  where
    by : (i : ℕ) → is_in i places ≡ true → (g : Option Op) → slice_get ops i ≡ g → is_in f (option_map_or read_by g []) ≡ true → (i : ℕ) × (o : Op) × (is_in i places ≡ true) × (slice_get ops i ≡ Some o) × (is_in f (read_by o) ≡ true)
    by i m None e n = absurd (true≢false (sym n))
    by i m (Some o) e n = (i, o, m, e, n)

write_of : (ops : List Op) (places : List ℕ) (f : ℕ) → is_in f (writes_at ops places) ≡ true → (i : ℕ) × (o : Op) × (is_in i places ≡ true) × (slice_get ops i ≡ Some o) × (writes o f ≡ true)
write_of ops places f h =
    let r = of_flat (λ i. option_map_or (λ (o : Op). option_to_list (written_by o.act)) (slice_get ops i) []) places f h in
    by r.0 (in_number r.0 places r.1) (slice_get ops r.0) refl r.2
  where
    one : (w : Option ℕ) → is_in f (option_to_list w) ≡ true → is_same w (Some f) ≡ true
    one None h = h
    one (Some k) h = ⊎_elim (λ e. e) (λ e. absurd (true≢false (sym e))) (or_cases (nat_eq k f) false h)

    by : (i : ℕ) → is_in i places ≡ true → (g : Option Op) → slice_get ops i ≡ g → is_in f (option_map_or (λ (o : Op). option_to_list (written_by o.act)) g []) ≡ true → (i : ℕ) × (o : Op) × (is_in i places ≡ true) × (slice_get ops i ≡ Some o) × (writes o f ≡ true)
    by i m None e n = absurd (true≢false (sym n))
    by i m (Some o) e n = (i, o, m, e, one (written_by o.act) n)

any_number : (t : ℕ → Bool) (xs : List ℕ) (f : ℕ) → is_in f xs ≡ true → t f ≡ true → list_any t xs ≡ true
any_number t [] f h e = absurd (true≢false (sym h))
any_number t (x ∷ xs) f h e = ⊎_elim (λ s. or_left (t x) (list_any t xs) (ap t (eqb-true x f s) ∙ e)) (λ r. or_right (t x) (list_any t xs) (any_number t xs f r e)) (or_cases (nat_eq x f) (is_in f xs) h)

of_any : (t : ℕ → Bool) (xs : List ℕ) → list_any t xs ≡ true → (f : ℕ) × (is_in f xs ≡ true) × (t f ≡ true)
of_any t [] h = absurd (true≢false (sym h))
of_any t (x ∷ xs) h = by (or_cases (t x) (list_any t xs) h) (λ r. of_any t xs r)
  where
    by : (t x ≡ true) ⊎ (list_any t xs ≡ true) → (list_any t xs ≡ true → (f : ℕ) × (is_in f xs ≡ true) × (t f ≡ true)) → (f : ℕ) × (is_in f (x ∷ xs) ≡ true) × (t f ≡ true)
    by (inl e) again = (x, or_left (nat_eq x x) (is_in x xs) (eq-eqb x x refl), e)
    by (inr e) again = let r = again e in (r.0, or_right (nat_eq x r.0) (is_in r.0 xs) r.1, r.2)

module _ (ops : List Op) (follow : nodes_follow_writes ops ≡ true) where
  -- the writer of an operation's read is no operation of its node, and precedes it
  follows : (i j : ℕ) (r w : Op) (f : ℕ) → slice_get ops i ≡ Some r → slice_get ops j ≡ Some w → is_in f (read_by r) ≡ true → writes w f ≡ true → (is_one_node (j, w) (i, r) ≡ false) × (stands_before (j, w) (i, r) ≡ true)
  follows i j r w f e g a b =
      let placed = enumerate_from 0 ops in
      let inner = λ (r : ℕ × Op) (w : ℕ × Op). not (reads_from r.1 w.1) || not (is_one_node w r) && stands_before w r in
      let ri : In (i, r) placed = subst (λ k. In (k, r) placed) (omega arith) (in_enum ops 0 i r e) in
      let wj : In (j, w) placed = subst (λ k. In (k, w) placed) (omega arith) (in_enum ops 0 j w g) in
      let row = all_in (λ r. list_all (inner r) placed) placed follow (i, r) ri in
      let one = all_in (inner (i, r)) placed row (j, w) wj in
      let reads : reads_from r w ≡ true = any_number (writes w) (read_by r) f a b in
      let both = and_parts (not (is_one_node (j, w) (i, r))) (stands_before (j, w) (i, r)) (⊎_elim (λ x. absurd (true≢false (sym reads ∙ not-true (reads_from r w) x))) (λ x. x) (or_cases (not (reads_from r w)) (not (is_one_node (j, w) (i, r)) && stands_before (j, w) (i, r)) one)) in
      (not-true (is_one_node (j, w) (i, r)) both.0, both.1)

  -- two operations of one node
  one_node : (n : Node) (i j : ℕ) (r w : Op) → is_in i (places_of ops n) ≡ true → is_in j (places_of ops n) ≡ true → slice_get ops i ≡ Some r → slice_get ops j ≡ Some w → is_one_node (j, w) (i, r) ≡ true
  one_node (Pure k) i j r w a b e g =
      let first : k ≡ i = ⊎_elim (λ s. eqb-true k i s) (λ s. absurd (true≢false (sym s))) (or_cases (nat_eq k i) false a) in
      let second : k ≡ j = ⊎_elim (λ s. eqb-true k j s) (λ s. absurd (true≢false (sym s))) (or_cases (nat_eq k j) false b) in
      or_left (nat_eq j i) (is_same (called_by w.act) (called_by r.act)) (eq-eqb j i (sym second ∙ first))
  one_node (Array g) i j r w a b e h =
      let p = of_firsts (λ (o : ℕ × Op). is_same (called_by o.1.act) (Some g)) ops i a in
      let q = of_firsts (λ (o : ℕ × Op). is_same (called_by o.1.act) (Some g)) ops j b in
      let x : called_by r.act ≡ Some g = same (called_by r.act) (ap (λ (o : Op). is_same (called_by o.act) (Some g)) (same_Some r p.0 (sym e ∙ p.1)) ∙ p.2) in
      let y : called_by w.act ≡ Some g = same (called_by w.act) (ap (λ (o : Op). is_same (called_by o.act) (Some g)) (same_Some w q.0 (sym h ∙ q.1)) ∙ q.2) in
      or_right (nat_eq j i) (is_same (called_by w.act) (called_by r.act)) (ap (λ c. is_same c (called_by r.act)) y ∙ ap (λ c. is_same (Some g) c) x ∙ eq-eqb g g refl)
    where
      same : (c : Option ℕ) → is_same c (Some g) ≡ true → c ≡ Some g
      same None s = absurd (true≢false (sym s))
      same (Some f) s = ap Some (eqb-true f g s)

  -- no operation precedes one that precedes it
  not_before : (i j : ℕ) (r w : Op) → slice_get ops i ≡ Some r → slice_get ops j ≡ Some w → Before ops i j → stands_before (j, w) (i, r) ≡ true → ⊥
  not_before i j r w e g b s = by (b r w e g) (or_cases (nat_lt (key_of w) (key_of r)) (nat_eq (key_of w) (key_of r) && nat_lt j i) s)
    where
      by : (key_of r < key_of w) ⊎ ((key_of r ≡ key_of w) × (i < j)) → (nat_lt (key_of w) (key_of r) ≡ true) ⊎ ((nat_eq (key_of w) (key_of r) && nat_lt j i) ≡ true) → ⊥
      by (inl l) (inl x) = omega (arith, l, ltb-true (key_of w) (key_of r) x)
      by (inl l) (inr x) = let p = and_parts (nat_eq (key_of w) (key_of r)) (nat_lt j i) x in omega (arith, l, eqb-true (key_of w) (key_of r) p.0)
      by (inr l) (inl x) = omega (arith, l.0, ltb-true (key_of w) (key_of r) x)
      by (inr l) (inr x) = let p = and_parts (nat_eq (key_of w) (key_of r)) (nat_lt j i) x in omega (arith, l.1, ltb-true j i p.1)

  -- none from a node on writes its reads
  abbrev Onward : List Work → Type 0
  Onward [] = Unit {0}
  Onward (n ∷ ns) = (fed_by (n ∷ ns) n ≡ false) × Onward ns

  none_own : (n : Node) → feeds (work_of ops n) (work_of ops n) ≡ false
  none_own n = false_from_ne_true (feeds (work_of ops n) (work_of ops n)) (λ h.
      let f = of_any (λ k. is_in k (work_of ops n).writes) (work_of ops n).reads h in
      let r = read_of ops (places_of ops n) f.0 f.1 in
      let w = write_of ops (places_of ops n) f.0 f.2 in
      let s = follows r.0 w.0 r.1 w.1 f.0 r.3 w.3 r.4 w.4 in
      true≢false (sym (one_node n r.0 w.0 r.1 w.1 r.2 w.2 r.3 w.3) ∙ s.0))

  none_later : (n m : Node) → ((i j : ℕ) → In i (places_of ops n) → In j (places_of ops m) → Before ops i j) → feeds (work_of ops m) (work_of ops n) ≡ false
  none_later n m before = false_from_ne_true (feeds (work_of ops m) (work_of ops n)) (λ h.
      let f = of_any (λ k. is_in k (work_of ops m).writes) (work_of ops n).reads h in
      let r = read_of ops (places_of ops n) f.0 f.1 in
      let w = write_of ops (places_of ops m) f.0 f.2 in
      let s = follows r.0 w.0 r.1 w.1 f.0 r.3 w.3 r.4 w.4 in
      not_before r.0 w.0 r.1 w.1 r.3 w.3 (before r.0 w.0 (number_in r.0 (places_of ops n) r.2) (number_in w.0 (places_of ops m) w.2)) s.1)

  onward : (ns : List Node) → Pairs (Before ops) (flat_map (λ (w : Work). w.ops) (map (work_of ops) ns)) → Onward (map (work_of ops) ns)
  onward [] b = tt
  onward (n ∷ ns) b = (
    or_from (feeds (work_of ops n) (work_of ops n)) (list_any (λ w. feeds w (work_of ops n)) (map (work_of ops) ns)) (none_own n)
        (later ns (λ i j a c. pairs_across (Before ops) (places_of ops n) (flat_map (λ (w : Work). w.ops) (map (work_of ops) ns)) b i j a c)),
    onward ns (pairs_behind (Before ops) (places_of ops n) (flat_map (λ (w : Work). w.ops) (map (work_of ops) ns)) b),
  )
    where
      later : (ms : List Node) → ((i j : ℕ) → In i (places_of ops n) → In j (flat_map (λ (w : Work). w.ops) (map (work_of ops) ms)) → Before ops i j) → list_any (λ w. feeds w (work_of ops n)) (map (work_of ops) ms) ≡ false
      later [] h = refl
      later (m ∷ ms) h = or_from (feeds (work_of ops m) (work_of ops n)) (list_any (λ w. feeds w (work_of ops n)) (map (work_of ops) ms))
          (none_later n m (λ i j a c. h i j a (left_in j (places_of ops m) (flat_map (λ (w : Work). w.ops) (map (work_of ops) ms)) c)))
          (later ms (λ i j a c. h i j a (right_in j (places_of ops m) (flat_map (λ (w : Work). w.ops) (map (work_of ops) ms)) c)))

  no_room : (limits : Limits) (done : List Seat) (ns : List Work) (i : ℕ) → Onward ns → IsStuck ops limits done ns i → NoRoom ops limits done ns i
  no_room limits done [] i o s = s
  no_room limits done (n ∷ ns) zero o s = λ p room. s p (record { written = o.0; room = room })
  no_room limits done (n ∷ ns) (suc i) o s = (s.0, s.1, no_room limits (done ++ record { node = n; at = s.0 } ∷ []) ns i o.1 s.2)

pub stuck_for_room : StuckForRoom
stuck_for_room code limits i follow stuck = no_room code.ops follow limits [] (works code.ops) i (onward code.ops follow (nodes code.ops) (works_before code.ops)) stuck

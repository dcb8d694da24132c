-- The operations of all nodes: each operation belongs to one node, and those that call one array belong to the same.
use Rattle.std.proofs.Common.{◌≡◌, ℕ, zero, suc, ◌+◌, ◌*◌, ◌≤◌, List, [], ◌∷◌, ◌++◌, Bool, true, false, not, ◌⊎◌, inl, inr, cond, Option, Some, None, map, nat_eq, nat_lt, slice_get, refl, sym, ap, ap₂, subst, ◌∙◌, ⊎_elim, append-nil, arith}
use Rattle.std.specs.List.{filter, flat_map, list_all, enumerate_from, AllByRecursion}
use Rattle.std.specs.Option.{option_map_or}
use Rattle.std.proofs.lemmas.Bool.{and_parts, and_from, or_cases, or_from, or_left, or_right, eqb-true, eq-eqb, ne_eqb, true≢false, not-true, false_from_ne_true, ltb-true, cases_eq}
use Rattle.std.proofs.lemmas.Grind.{flat_map-append}
use Rattle.std.proofs.lemmas.List.Folds.{flat_map-map}
use Rattle.std.proofs.lemmas.Option.{same_Some}
use Rattle.lucid_code.specs.declared.op.Op.{Op}
use Rattle.lucid_code.specs.Uses.{called_by, is_same, key_of}
use Rattle.lucid_tables.specs.Numbers.{is_in, all_differ, rises, rising}
use Rattle.lucid_tables.proofs.Members.{In, in_filter, into_filter, is_in_append, differ_join}
use Rattle.lucid_tables.proofs.Rising.{in_with_numbers, with_numbers_rise}
use Rattle.lucid_code.specs.declared.node.Node.{Node}
use Rattle.lucid_code.specs.declared.node.Node.TheVariants.{Pure, Array}
use Rattle.lucid_stages.specs.declared.node.Work.{Work}
use Rattle.lucid_code.specs.Nodes.{with_key, nodes_with_key, nodes}
use Rattle.lucid_stages.specs.NodeWorks.{calls_of, places_of, work_of, works}

-- ---- lists

filter_same : {A : Type 0} (f g : A → Bool) (xs : List A) → ((x : A) → f x ≡ g x) → filter f xs ≡ filter g xs
filter_same f g [] h = refl
filter_same f g (x ∷ xs) h = ap (λ b. cond b (x ∷ filter f xs) (filter f xs)) (h x) ∙ ap (λ l. cond (g x) (x ∷ l) l) (filter_same f g xs h)

flat_of_flat : {A B C : Type 0} (f : B → List C) (g : A → List B) (xs : List A) → flat_map f (flat_map g xs) ≡ flat_map (λ x. flat_map f (g x)) xs
flat_of_flat f g [] = refl
flat_of_flat f g (x ∷ xs) = flat_map-append f (g x) (flat_map g xs) ∙ ap (λ l. flat_map f (g x) ++ l) (flat_of_flat f g xs)

flat_same : {A B : Type 0} (f g : A → List B) (xs : List A) → ((x : A) → f x ≡ g x) → flat_map f xs ≡ flat_map g xs
flat_same f g [] h = refl
flat_same {B = B} f g (x ∷ xs) h = ap₂ (λ (a b : List B). a ++ b) (h x) (flat_same f g xs h)

pub in_flat : {A : Type 0} (of : A → List ℕ) (xs : List A) (x : A) (i : ℕ) → In x xs → is_in i (of x) ≡ true → is_in i (flat_map of xs) ≡ true
in_flat of [] x i h n = absurd h
in_flat of (y ∷ xs) x i (inl e) n = is_in_append i (of y) (flat_map of xs) ∙ or_left (is_in i (of y)) (is_in i (flat_map of xs)) (ap (λ y. is_in i (of y)) (sym e) ∙ n)
in_flat of (y ∷ xs) x i (inr h) n = is_in_append i (of y) (flat_map of xs) ∙ or_right (is_in i (of y)) (is_in i (flat_map of xs)) (in_flat of xs x i h n)

pub of_flat : {A : Type 0} (of : A → List ℕ) (xs : List A) (i : ℕ) → is_in i (flat_map of xs) ≡ true → (x : A) × In x xs × (is_in i (of x) ≡ true)
of_flat of [] i n = absurd (true≢false (sym n))
of_flat {A = A} of (x ∷ xs) i n = by (or_cases (is_in i (of x)) (is_in i (flat_map of xs)) (sym (is_in_append i (of x) (flat_map of xs)) ∙ n)) (λ m. of_flat of xs i m)
  where
    by : (is_in i (of x) ≡ true) ⊎ (is_in i (flat_map of xs) ≡ true) → (is_in i (flat_map of xs) ≡ true → (y : A) × In y xs × (is_in i (of y) ≡ true)) → (y : A) × In y (x ∷ xs) × (is_in i (of y) ≡ true)
    by (inl e) again = (x, inl refl, e)
    by (inr e) again = let r = again e in (r.0, inr r.1, r.2)

pub in_number : (i : ℕ) (xs : List ℕ) → In i xs → is_in i xs ≡ true
in_number i [] h = absurd h
in_number i (x ∷ xs) (inl e) = or_left (nat_eq x i) (is_in i xs) (eq-eqb x i (sym e))
in_number i (x ∷ xs) (inr h) = or_right (nat_eq x i) (is_in i xs) (in_number i xs h)

number_in : (i : ℕ) (xs : List ℕ) → is_in i xs ≡ true → In i xs
number_in i [] h = absurd (true≢false (sym h))
number_in i (x ∷ xs) h = ⊎_elim (λ e. inl (sym (eqb-true x i e))) (λ e. inr (number_in i xs e)) (or_cases (nat_eq x i) (is_in i xs) h)

in_map : {A B : Type 0} (f : A → B) (x : A) (xs : List A) → In x xs → In (f x) (map f xs)
in_map f x [] h = absurd h
in_map f x (y ∷ xs) (inl e) = inl (ap f e)
in_map f x (y ∷ xs) (inr h) = inr (in_map f x xs h)

of_map : {A B : Type 0} (f : A → B) (y : B) (xs : List A) → In y (map f xs) → (x : A) × In x xs × (y ≡ f x)
of_map f y [] h = absurd h
of_map f y (x ∷ xs) (inl e) = (x, inl refl, e)
of_map f y (x ∷ xs) (inr h) = let r = of_map f y xs h in (r.0, inr r.1, r.2)

-- distinct lists of distinct numbers
differ_flat : (f : ℕ → List ℕ) (ks : List ℕ) → all_differ ks ≡ true → ((k : ℕ) → all_differ (f k) ≡ true) → ((j k i : ℕ) → is_in i (f j) ≡ true → is_in i (f k) ≡ true → j ≡ k) → all_differ (flat_map f ks) ≡ true
differ_flat f [] d own one = refl
differ_flat f (k ∷ ks) d own one =
    let parts = and_parts (not (is_in k ks)) (all_differ ks) d in
    differ_join (f k) (flat_map f ks) (own k) (differ_flat f ks parts.1 own one)
    (λ i m. false_from_ne_true (is_in i (flat_map f ks)) (λ n.
    let r = of_flat f ks i n in
    true≢false (sym (ap (λ j. is_in j ks) (one k r.0 i m r.2) ∙ in_number r.0 ks r.1) ∙ not-true (is_in k ks) parts.0)))

above_differ : (k : ℕ) (ks : List ℕ) → list_all (nat_lt k) ks ≡ true → is_in k ks ≡ false
above_differ k [] h = refl
above_differ k (j ∷ ks) h =
    let parts = and_parts (nat_lt k j) (list_all (nat_lt k) ks) h in
    or_from (nat_eq j k) (is_in k ks) (ne_eqb j k (λ e. omega (arith, e, ltb-true k j parts.0))) (above_differ k ks parts.1)

pub rising_differ : (ks : List ℕ) → rises ks ≡ true → all_differ ks ≡ true
rising_differ [] h = refl
rising_differ (k ∷ ks) h =
    let parts = and_parts (list_all (nat_lt k) ks) (rises ks) h in
    and_from (not (is_in k ks)) (all_differ ks) (ap not (above_differ k ks parts.0)) (rising_differ ks parts.1)

-- ---- operations and their places

pub in_enum : (ops : List Op) (n i : ℕ) (o : Op) → slice_get ops i ≡ Some o → In (n + i, o) (enumerate_from n ops)
in_enum [] n i o h = absurd (no h)
  where
    no : None ≡ Some o → ⊥
    no e = cc
in_enum (p ∷ ops) n zero o h = inl (ap₂ (λ (k : ℕ) (q : Op). (k, q)) (omega arith) (sym (same_Some p o h)))
in_enum (p ∷ ops) n (suc i) o h = inr (subst (λ k. In (k, o) (enumerate_from (n + 1) ops)) (omega arith) (in_enum ops (n + 1) i o h))

pub enum_in : (ops : List Op) (n i : ℕ) (o : Op) → In (i, o) (enumerate_from n ops) → (j : ℕ) × (i ≡ n + j) × (slice_get ops j ≡ Some o)
enum_in [] n i o h = absurd h
enum_in (p ∷ ops) n i o (inl e) = (0, ap (λ (q : ℕ × Op). q.0) e ∙ omega arith, ap (λ (q : ℕ × Op). Some q.1) (sym e))
enum_in (p ∷ ops) n i o (inr h) = let r = enum_in ops (n + 1) i o h in (suc r.0, r.1 ∙ omega arith, r.2)

abbrev pub firsts : List (ℕ × Op) → List ℕ
firsts os = map (λ (o : ℕ × Op). o.0) os

one_more : (n : ℕ) (p : Op) (os : List (ℕ × Op)) (b : Bool) → (all_differ (firsts os) ≡ true) × ((i : ℕ) → is_in i (firsts os) ≡ true → n + 1 ≤ i) →
    (all_differ (firsts (cond b ((n, p) ∷ os) os)) ≡ true) × ((i : ℕ) → is_in i (firsts (cond b ((n, p) ∷ os) os)) ≡ true → n ≤ i)
one_more n p os true h = (
  and_from (not (is_in n (firsts os))) (all_differ (firsts os)) (ap not (false_from_ne_true (is_in n (firsts os)) (λ m. absurd (omega (arith, h.1 n m))))) h.0,
  λ i m. ⊎_elim (λ e. let same : n ≡ i = eqb-true n i e in omega (arith, same)) (λ r. let up : n + 1 ≤ i = h.1 i r in omega (arith, up)) (or_cases (nat_eq n i) (is_in i (firsts os)) m),
)
one_more n p os false h = (h.0, λ i m. let up : n + 1 ≤ i = h.1 i m in omega (arith, up))

enum_differ : (t : ℕ × Op → Bool) (ops : List Op) (n : ℕ) → (all_differ (firsts (filter t (enumerate_from n ops))) ≡ true) × ((i : ℕ) → is_in i (firsts (filter t (enumerate_from n ops))) ≡ true → n ≤ i)
enum_differ t [] n = (refl, λ i h. absurd (true≢false (sym h)))
enum_differ t (p ∷ ops) n = one_more n p (filter t (enumerate_from (n + 1) ops)) (t (n, p)) (enum_differ t ops (n + 1))

-- a number is among the firsts where an operation has it
pub of_firsts : (t : ℕ × Op → Bool) (ops : List Op) (i : ℕ) → is_in i (firsts (filter t (enumerate_from 0 ops))) ≡ true → (o : Op) × (slice_get ops i ≡ Some o) × (t (i, o) ≡ true)
of_firsts t ops i h =
    let found = of_map (λ (o : ℕ × Op). o.0) i (filter t (enumerate_from 0 ops)) (number_in i (firsts (filter t (enumerate_from 0 ops))) h) in
    let o : Op = found.0.1 in
    let here : In (i, o) (filter t (enumerate_from 0 ops)) = subst (λ k. In (k, o) (filter t (enumerate_from 0 ops))) (sym found.2) found.1 in
    let parts = in_filter t (i, o) (enumerate_from 0 ops) here in
    let place = enum_in ops 0 i o parts.0 in
    (o, subst (λ k. slice_get ops k ≡ Some o) (sym (place.1 ∙ omega arith)) place.2, parts.1)

to_firsts : (t : ℕ × Op → Bool) (ops : List Op) (i : ℕ) (o : Op) → slice_get ops i ≡ Some o → t (i, o) ≡ true → is_in i (firsts (filter t (enumerate_from 0 ops))) ≡ true
to_firsts t ops i o h e =
    let here : In (i, o) (enumerate_from 0 ops) = subst (λ k. In (k, o) (enumerate_from 0 ops)) (omega arith) (in_enum ops 0 i o h) in
    in_number i (firsts (filter t (enumerate_from 0 ops))) (in_map (λ (o : ℕ × Op). o.0) (i, o) (filter t (enumerate_from 0 ops)) (into_filter t (i, o) (enumerate_from 0 ops) here e))

-- ---- keys

call_key : (c : Option ℕ) (l g : ℕ) → nat_eq (option_map_or (λ array. 2 * array + 1) c (2 * l)) (2 * g + 1) ≡ is_same c (Some g)
call_key None l g = ne_eqb (2 * l) (2 * g + 1) (λ e. absurd (omega (arith, e)))
call_key (Some a) l g = ⊎_elim
    (λ e. eq-eqb (2 * a + 1) (2 * g + 1) (omega (arith, e)) ∙ sym (eq-eqb a g e))
    (λ n. ne_eqb (2 * a + 1) (2 * g + 1) (λ e. n (omega (arith, e))) ∙ sym (ne_eqb a g n))
    (cases_eq a g)

pure_key : (c : Option ℕ) (l m : ℕ) → option_map_or (λ array. 2 * array + 1) c (2 * l) ≡ 2 * m → c ≡ None
pure_key None l m e = refl
pure_key (Some a) l m e = absurd (omega (arith, e))

-- the calls of an array are the operations of its key
calls_by_key : (ops : List Op) (g : ℕ) → firsts (with_key (2 * g + 1) (enumerate_from 0 ops)) ≡ calls_of ops g
calls_by_key ops g = ap firsts (filter_same (λ (o : ℕ × Op). nat_eq (key_of o.1) (2 * g + 1)) (λ (o : ℕ × Op). is_same (called_by o.1.act) (Some g)) (enumerate_from 0 ops) (λ o. call_key (called_by o.1.act) o.1.level g))

keyed : (key : ℕ) (os : List (ℕ × Op)) → AllByRecursion (λ (o : ℕ × Op). key_of o.1 ≡ key) (with_key key os)
keyed key [] = tt
keyed key (o ∷ os) = by (nat_eq (key_of o.1) key) refl (keyed key os)
  where
    by : (b : Bool) → nat_eq (key_of o.1) key ≡ b → AllByRecursion (λ (o : ℕ × Op). key_of o.1 ≡ key) (with_key key os) → AllByRecursion (λ (o : ℕ × Op). key_of o.1 ≡ key) (cond b (o ∷ with_key key os) (with_key key os))
    by true e rest = (eqb-true (key_of o.1) key e, rest)
    by false e rest = rest

pures : (ops : List Op) (m : ℕ) (os : List (ℕ × Op)) → AllByRecursion (λ (o : ℕ × Op). key_of o.1 ≡ 2 * m) os → flat_map (places_of ops) (nodes_with_key os) ≡ firsts os
pures ops m [] h = refl
pures ops m (o ∷ os) h =
    ap (λ (c : Option ℕ). flat_map (places_of ops) (option_map_or (λ array. Array array ∷ []) c (Pure o.0 ∷ nodes_with_key os))) (pure_key (called_by o.1.act) o.1.level m h.0)
    ∙ ap (λ l. o.0 ∷ l) (pures ops m os h.1)

-- the nodes of a key have its operations
places_of_key : (ops : List Op) (key : ℕ) → flat_map (places_of ops) (nodes_with_key (with_key key (enumerate_from 0 ops))) ≡ firsts (with_key key (enumerate_from 0 ops))
places_of_key ops key = by (with_key key (enumerate_from 0 ops)) refl (keyed key (enumerate_from 0 ops))
  where
    first : (o : ℕ × Op) (os : List (ℕ × Op)) (c : Option ℕ) → called_by o.1.act ≡ c → firsts (with_key key (enumerate_from 0 ops)) ≡ firsts (o ∷ os) → AllByRecursion (λ (o : ℕ × Op). key_of o.1 ≡ key) (o ∷ os) →
        flat_map (places_of ops) (nodes_with_key (o ∷ os)) ≡ firsts (o ∷ os)
    first o os None e w h =
        let even : key ≡ 2 * o.1.level = sym h.0 ∙ ap (λ (c : Option ℕ). option_map_or (λ array. 2 * array + 1) c (2 * o.1.level)) e in
        pures ops o.1.level (o ∷ os) (subst (λ k. AllByRecursion (λ (o : ℕ × Op). key_of o.1 ≡ k) (o ∷ os)) even h)
    first o os (Some g) e w h =
        let odd : key ≡ 2 * g + 1 = sym h.0 ∙ ap (λ (c : Option ℕ). option_map_or (λ array. 2 * array + 1) c (2 * o.1.level)) e in
        ap (λ (c : Option ℕ). flat_map (places_of ops) (option_map_or (λ array. Array array ∷ []) c (Pure o.0 ∷ nodes_with_key os))) e
        ∙ append-nil (calls_of ops g)
        ∙ sym (calls_by_key ops g)
        ∙ ap (λ k. firsts (with_key k (enumerate_from 0 ops))) (sym odd)
        ∙ w

    by : (os : List (ℕ × Op)) → with_key key (enumerate_from 0 ops) ≡ os → AllByRecursion (λ (o : ℕ × Op). key_of o.1 ≡ key) (with_key key (enumerate_from 0 ops)) → flat_map (places_of ops) (nodes_with_key (with_key key (enumerate_from 0 ops))) ≡ firsts (with_key key (enumerate_from 0 ops))
    by [] e h = ap (λ os. flat_map (places_of ops) (nodes_with_key os)) e ∙ sym (ap firsts e)
    by (o ∷ os) e h =
        ap (λ os. flat_map (places_of ops) (nodes_with_key os)) e
        ∙ first o os (called_by o.1.act) refl (ap firsts e) (subst (λ os. AllByRecursion (λ (o : ℕ × Op). key_of o.1 ≡ key) os) e h)
        ∙ sym (ap firsts e)

abbrev keys : List Op → List ℕ
keys ops = rising (map key_of ops)

abbrev of_key : List Op → ℕ → List ℕ
of_key ops key = firsts (with_key key (enumerate_from 0 ops))

-- the operations of all nodes, key by key
pub shared_out : (ops : List Op) → flat_map (λ (w : Work). w.ops) (works ops) ≡ flat_map (of_key ops) (keys ops)
shared_out ops =
    flat_map-map (λ (w : Work). w.ops) (work_of ops) (nodes ops)
    ∙ flat_of_flat (places_of ops) (λ key. nodes_with_key (with_key key (enumerate_from 0 ops))) (keys ops)
    ∙ flat_same (λ key. flat_map (places_of ops) (nodes_with_key (with_key key (enumerate_from 0 ops)))) (of_key ops) (keys ops) (places_of_key ops)

-- an operation that is there belongs to a node
pub covered : (ops : List Op) (i : ℕ) (o : Op) → slice_get ops i ≡ Some o → is_in i (flat_map (λ (w : Work). w.ops) (works ops)) ≡ true
covered ops i o h =
    let key = key_of o in
    let in_keys : is_in key (keys ops) ≡ true = in_with_numbers (map key_of ops) [] key ∙ in_number key (map key_of ops) (in_map key_of o ops (there ops i h)) in
    ap (is_in i) (shared_out ops)
    ∙ in_flat (of_key ops) (keys ops) key i (number_in key (keys ops) in_keys) (to_firsts (λ (o : ℕ × Op). nat_eq (key_of o.1) key) ops i o h (eq-eqb (key_of o) key refl))
  where
    there : (ops : List Op) (i : ℕ) → slice_get ops i ≡ Some o → In o ops
    there [] i e = absurd (no e)
      where
        no : None ≡ Some o → ⊥
        no e = cc
    there (p ∷ ops) zero e = inl (sym (same_Some p o e))
    there (p ∷ ops) (suc i) e = inr (there ops i e)

-- a node's operation is there
pub found : (ops : List Op) (i : ℕ) → is_in i (flat_map (λ (w : Work). w.ops) (works ops)) ≡ true → (o : Op) × (slice_get ops i ≡ Some o)
found ops i h =
    let key = of_flat (of_key ops) (keys ops) i (sym (ap (is_in i) (shared_out ops)) ∙ h) in
    let r = of_firsts (λ (o : ℕ × Op). nat_eq (key_of o.1) key.0) ops i key.2 in
    (r.0, r.1)

-- no operation belongs to two nodes, nor twice to one
pub apart : (ops : List Op) → all_differ (flat_map (λ (w : Work). w.ops) (works ops)) ≡ true
apart ops =
    ap all_differ (shared_out ops)
    ∙ differ_flat (of_key ops) (keys ops) (rising_differ (keys ops) (with_numbers_rise (map key_of ops) [] refl))
    (λ key. (enum_differ (λ (o : ℕ × Op). nat_eq (key_of o.1) key) ops 0).0)
    (λ j k i g h.
    let a = of_firsts (λ (o : ℕ × Op). nat_eq (key_of o.1) j) ops i g in
    let b = of_firsts (λ (o : ℕ × Op). nat_eq (key_of o.1) k) ops i h in
    sym (eqb-true (key_of a.0) j a.2) ∙ ap key_of (same_Some a.0 b.0 (sym a.1 ∙ b.1)) ∙ eqb-true (key_of b.0) k b.2)

-- ---- the node of a call

-- a node of its own calls no array
abbrev IsNode : List (ℕ × Op) → Node → Type 0
IsNode os (Pure i) = (o : Op) × In (i, o) os × (called_by o.act ≡ None)
IsNode os (Array g) = Unit {0}

wider : (os : List (ℕ × Op)) (o : ℕ × Op) (n : Node) → IsNode os n → IsNode (o ∷ os) n
wider os o (Pure i) h = (h.0, inr h.1, h.2)
wider os o (Array g) h = tt

is_node : (os : List (ℕ × Op)) (n : Node) → In n (nodes_with_key os) → IsNode os n
is_node [] n h = absurd h
is_node (o ∷ os) n h = by (called_by o.1.act) refl h (λ r. is_node os n r)
  where
    by : (c : Option ℕ) → called_by o.1.act ≡ c → In n (option_map_or (λ array. Array array ∷ []) c (Pure o.0 ∷ nodes_with_key os)) → (In n (nodes_with_key os) → IsNode os n) → IsNode (o ∷ os) n
    by None e (inl s) again = subst (IsNode (o ∷ os)) (sym s) (o.1, inl refl, e)
    by None e (inr r) again = wider os o n (again r)
    by (Some g) e (inl s) again = subst (IsNode (o ∷ os)) (sym s) tt
    by (Some g) e (inr r) again = absurd r

same_places : (ops : List Op) (n : Node) (i j g : ℕ) (o p : Op) → ((k : ℕ) → n ≡ Pure k → (q : Op) × (slice_get ops k ≡ Some q) × (called_by q.act ≡ None)) →
    is_in i (places_of ops n) ≡ true → slice_get ops i ≡ Some o → called_by o.act ≡ Some g → slice_get ops j ≡ Some p → called_by p.act ≡ Some g → is_in j (places_of ops n) ≡ true
same_places ops (Pure k) i j g o p pure h a b c d =
    let q = pure k refl in
    let same : k ≡ i = ⊎_elim (λ e. eqb-true k i e) (λ e. absurd (true≢false (sym e))) (or_cases (nat_eq k i) false h) in
    let one : q.0 ≡ o = same_Some q.0 o (sym q.1 ∙ ap (slice_get ops) same ∙ a) in
    absurd (no (sym q.2 ∙ ap (λ (o : Op). called_by o.act) one ∙ b))
  where
    no : None ≡ Some g → ⊥
    no e = cc
same_places ops (Array f) i j g o p pure h a b c d =
    let r = of_firsts (λ (o : ℕ × Op). is_same (called_by o.1.act) (Some f)) ops i h in
    let one : r.0 ≡ o = same_Some r.0 o (sym r.1 ∙ a) in
    let same : nat_eq g f ≡ true = sym (ap (λ (c : Option ℕ). is_same c (Some f)) (ap (λ (o : Op). called_by o.act) one ∙ b)) ∙ r.2 in
    to_firsts (λ (o : ℕ × Op). is_same (called_by o.1.act) (Some f)) ops j p c (ap (λ (c : Option ℕ). is_same c (Some f)) d ∙ same)

-- the calls of an array belong to one node
pub together : (ops : List Op) (w : Work) (i j g : ℕ) (o p : Op) → In w (works ops) → is_in i w.ops ≡ true → slice_get ops i ≡ Some o → called_by o.act ≡ Some g → slice_get ops j ≡ Some p → called_by p.act ≡ Some g → is_in j w.ops ≡ true
together ops w i j g o p h m a b c d =
    let n = of_map (work_of ops) w (nodes ops) h in
    ap (λ (v : Work). is_in j v.ops) n.2
    ∙ same_places ops n.0 i j g o p (λ k e. pure k (subst (λ n. In n (nodes ops)) e n.1)) (sym (ap (λ (v : Work). is_in i v.ops) n.2) ∙ m) a b c d
  where
    pure : (k : ℕ) → In (Pure k) (nodes ops) → (q : Op) × (slice_get ops k ≡ Some q) × (called_by q.act ≡ None)
    pure k i =
        let key = in_some (keys ops) i in
        let r = is_node (with_key key.0 (enumerate_from 0 ops)) (Pure k) key.1 in
        let place = enum_in ops 0 k r.0 (in_filter (λ (o : ℕ × Op). nat_eq (key_of o.1) key.0) (k, r.0) (enumerate_from 0 ops) r.1).0 in
        (r.0, subst (λ x. slice_get ops x ≡ Some r.0) (sym (place.1 ∙ omega arith)) place.2, r.2)
      where
        in_some : (ks : List ℕ) → In (Pure k) (flat_map (λ key. nodes_with_key (with_key key (enumerate_from 0 ops))) ks) → (key : ℕ) × In (Pure k) (nodes_with_key (with_key key (enumerate_from 0 ops)))
        in_some [] h = absurd h
        in_some (key ∷ ks) h = ⊎_elim (λ e. (key, e)) (λ e. in_some ks e) (split (nodes_with_key (with_key key (enumerate_from 0 ops))) h)
          where
            split : (xs : List Node) → In (Pure k) (xs ++ flat_map (λ key. nodes_with_key (with_key key (enumerate_from 0 ops))) ks) → In (Pure k) xs ⊎ In (Pure k) (flat_map (λ key. nodes_with_key (with_key key (enumerate_from 0 ops))) ks)
            split [] h = inr h
            split (x ∷ xs) (inl e) = inl (inl e)
            split (x ∷ xs) (inr r) = ⊎_elim (λ e. inl (inr e)) (λ e. inr e) (split xs r)

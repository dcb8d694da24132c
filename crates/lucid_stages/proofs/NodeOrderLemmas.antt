-- The numbers that nodes have: places of operations, fields, and how many nodes there are.
use Rattle.std.proofs.Common.{◌≡◌, ℕ, suc, ◌+◌, ◌<◌, ◌≤◌, List, [], ◌∷◌, ◌++◌, Bool, true, false, not, ◌||◌, cond, if◌then◌else◌, Option, Some, None, length, map, nat_eq, nat_lt, slice_get, refl, sym, ap, subst, ◌∙◌, length-append, arith}
use Rattle.std.specs.List.{flat_map, list_all, enumerate_from, AllByRecursion}
use Rattle.std.specs.Option.{option_map_or, option_to_list}
use Rattle.std.proofs.lemmas.Bool.{and_parts, or_left, or_right, eqb-true, eq-eqb, true≢false, not-true, ltb-true}
use Rattle.std.proofs.lemmas.List.{length-map}
use Rattle.std.proofs.lemmas.Option.{slice_get_within}
use Rattle.lucid_code.specs.declared.op.Op.{Op}
use Rattle.lucid_code.specs.Parts.{CodeParts}
use Rattle.lucid_code.specs.Uses.{written_by, called_by, read_by, key_of}
use Rattle.lucid_code.specs.Valid.{IsValid, op_is_sound, names_are_there, inputs_stay, widths_agree, act_keeps_limits, literal_fits}
use Rattle.lucid_tables.specs.Numbers.{is_in, all_differ, rising}
use Rattle.lucid_tables.proofs.Members.{is_in_append}
use Rattle.lucid_tables.proofs.Rising.{with_numbers_rise}
use Rattle.lucid_code.specs.declared.node.Node.{Node}
use Rattle.lucid_code.specs.declared.node.Node.TheVariants.{Pure, Array}
use Rattle.lucid_stages.specs.declared.node.Work.{Work}
use Rattle.lucid_code.specs.Nodes.{with_key, nodes_with_key, nodes}
use Rattle.lucid_stages.specs.NodeWorks.{writes_at, work_of, works}
use Rattle.lucid_stages.specs.Marks.{Within}
use Rattle.lucid_stages.proofs.PlacingLemmas.{sound_at}
use Rattle.lucid_stages.proofs.NodeWorksLemmas.{found, rising_differ}

pub within_from : (m : ℕ) (xs : List ℕ) → ((i : ℕ) → is_in i xs ≡ true → i < m) → Within m xs
within_from m [] h = tt
within_from m (x ∷ xs) h = (h x (or_left (nat_eq x x) (is_in x xs) (eq-eqb x x refl)), within_from m xs (λ i n. h i (or_right (nat_eq x i) (is_in i xs) n)))

ops_each : (m : ℕ) (ws : List Work) → ((i : ℕ) → is_in i (flat_map (λ (w : Work). w.ops) ws) ≡ true → i < m) → AllByRecursion (λ w. Within m w.ops) ws
ops_each m [] h = tt
ops_each m (w ∷ ws) h = (
  within_from m w.ops (λ i n. h i (is_in_append i w.ops (flat_map (λ (w : Work). w.ops) ws) ∙ or_left (is_in i w.ops) (is_in i (flat_map (λ (w : Work). w.ops) ws)) n)),
  ops_each m ws (λ i n. h i (is_in_append i w.ops (flat_map (λ (w : Work). w.ops) ws) ∙ or_right (is_in i w.ops) (is_in i (flat_map (λ (w : Work). w.ops) ws)) n)),
)

-- each operation of a node is there
pub ops_within : (ops : List Op) → AllByRecursion (λ w. Within (length ops) w.ops) (works ops)
ops_within ops = ops_each (length ops) (works ops) (λ i h. let o = found ops i h in slice_get_within ops i o.0 o.1)

written_there : (code : CodeParts) (i : ℕ) (o : Op) → IsValid code → slice_get code.ops i ≡ Some o → Within (length code.fields) (option_to_list (written_by o.act))
written_there code i o valid e =
    let sound = sound_at (op_is_sound code.fields code.inputs code.arrays) code.ops i o valid.ops e in
    let outer = and_parts _ (list_all (literal_fits code.fields) o.guard) sound in
    let third = and_parts _ (act_keeps_limits o.act) outer.0 in
    let second = and_parts _ (widths_agree code.fields code.arrays o.act) third.0 in
    let first = and_parts (names_are_there code.fields code.arrays o) (inputs_stay code.inputs o.act) second.0 in
    let names = and_parts _ (option_map_or (λ a. nat_lt a (length code.arrays)) (called_by o.act) true) first.0 in
    let writes = and_parts (list_all (λ k. nat_lt k (length code.fields)) (read_by o)) (option_map_or (λ k. nat_lt k (length code.fields)) (written_by o.act) true) names.0 in
    by (written_by o.act) writes.1
  where
    by : (w : Option ℕ) → option_map_or (λ k. nat_lt k (length code.fields)) w true ≡ true → Within (length code.fields) (option_to_list w)
    by None h = tt
    by (Some k) h = (ltb-true k (length code.fields) h, tt)

pub within_join : (m : ℕ) (xs ys : List ℕ) → Within m xs → Within m ys → Within m (xs ++ ys)
within_join m [] ys h g = g
within_join m (x ∷ xs) ys h g = (h.0, within_join m xs ys h.1 g)

writes_there : (code : CodeParts) (places : List ℕ) → IsValid code → Within (length code.fields) (writes_at code.ops places)
writes_there code [] valid = tt
writes_there code (i ∷ places) valid = within_join (length code.fields) (option_map_or (λ (o : Op). option_to_list (written_by o.act)) (slice_get code.ops i) []) (writes_at code.ops places) (by (slice_get code.ops i) refl) (writes_there code places valid)
  where
    by : (r : Option Op) → slice_get code.ops i ≡ r → Within (length code.fields) (option_map_or (λ (o : Op). option_to_list (written_by o.act)) r [])
    by None e = tt
    by (Some o) e = written_there code i o valid e

-- each field that a node writes is there
pub writes_within : (code : CodeParts) → IsValid code → AllByRecursion (λ w. Within (length code.fields) w.writes) (works code.ops)
writes_within code valid = each (nodes code.ops)
  where
    each : (ns : List Node) → AllByRecursion (λ w. Within (length code.fields) w.writes) (map (work_of code.ops) ns)
    each [] = tt
    each (n ∷ ns) = (writes_there code (work_of code.ops n).ops valid, each ns)

-- ---- no more nodes than operations

fewer : (os : List (ℕ × Op)) → length (nodes_with_key os) ≤ length os
fewer [] = omega arith
fewer (o ∷ os) = by (called_by o.1.act) (fewer os)
  where
    by : (c : Option ℕ) → length (nodes_with_key os) ≤ length os → length (option_map_or (λ array. Array array ∷ []) c (Pure o.0 ∷ nodes_with_key os)) ≤ suc (length os)
    by None h = omega (arith, h)
    by (Some g) h = omega arith

keyed : List (ℕ × Op) → List ℕ → List (ℕ × Op)
keyed os keys = flat_map (λ key. with_key key os) keys

one_for : Bool → ℕ
one_for true = 1
one_for false = 0

-- one more operation has one key
one_key : (o : ℕ × Op) (os : List (ℕ × Op)) (keys : List ℕ) → all_differ keys ≡ true →
    length (flat_map (λ key. with_key key (o ∷ os)) keys) ≤ length (flat_map (λ key. with_key key os) keys) + (if is_in (key_of o.1) keys then 1 else 0)
one_key o os [] d = omega arith
one_key o os (k ∷ keys) d =
    let parts = and_parts (not (is_in k keys)) (all_differ keys) d in
    let rest = one_key o os keys parts.1 in
    by (nat_eq (key_of o.1) k) refl (not-true (is_in k keys) parts.0) rest
  where
    by : (b : Bool) → nat_eq (key_of o.1) k ≡ b → is_in k keys ≡ false →
        length (flat_map (λ key. with_key key (o ∷ os)) keys) ≤ length (flat_map (λ key. with_key key os) keys) + (if is_in (key_of o.1) keys then 1 else 0) →
        length (cond b (o ∷ with_key k os) (with_key k os) ++ flat_map (λ key. with_key key (o ∷ os)) keys) ≤ length (with_key k os ++ flat_map (λ key. with_key key os) keys) + (if nat_eq k (key_of o.1) || is_in (key_of o.1) keys then 1 else 0)
    by true e none rest =
        let same : key_of o.1 ≡ k = eqb-true (key_of o.1) k e in
        let here : (nat_eq k (key_of o.1) || is_in (key_of o.1) keys) ≡ true = or_left (nat_eq k (key_of o.1)) (is_in (key_of o.1) keys) (eq-eqb k (key_of o.1) (sym same)) in
        let off : is_in (key_of o.1) keys ≡ false = ap (λ j. is_in j keys) same ∙ none in
        let less : length (flat_map (λ key. with_key key (o ∷ os)) keys) ≤ length (flat_map (λ key. with_key key os) keys) + 0 = subst (λ b. length (flat_map (λ key. with_key key (o ∷ os)) keys) ≤ length (flat_map (λ key. with_key key os) keys) + (if b then 1 else 0)) off rest in
        subst (λ b. length (o ∷ (with_key k os ++ flat_map (λ key. with_key key (o ∷ os)) keys)) ≤ length (with_key k os ++ flat_map (λ key. with_key key os) keys) + (if b then 1 else 0)) (sym here)
        (omega (arith, less, length-append (with_key k os) (flat_map (λ key. with_key key (o ∷ os)) keys), length-append (with_key k os) (flat_map (λ key. with_key key os) keys)))
    by false e none rest =
        let other : nat_eq k (key_of o.1) ≡ false = turned in
        let less : length (flat_map (λ key. with_key key (o ∷ os)) keys) ≤ length (flat_map (λ key. with_key key os) keys) + (if is_in (key_of o.1) keys then 1 else 0) = rest in
        subst (λ b. length (with_key k os ++ flat_map (λ key. with_key key (o ∷ os)) keys) ≤ length (with_key k os ++ flat_map (λ key. with_key key os) keys) + (if b || is_in (key_of o.1) keys then 1 else 0)) (sym other)
        (omega (arith, less, length-append (with_key k os) (flat_map (λ key. with_key key (o ∷ os)) keys), length-append (with_key k os) (flat_map (λ key. with_key key os) keys)))
      where
        turned : nat_eq k (key_of o.1) ≡ false
        turned = off (nat_eq k (key_of o.1)) refl
          where
            off : (b : Bool) → nat_eq k (key_of o.1) ≡ b → nat_eq k (key_of o.1) ≡ false
            off true h = absurd (true≢false (sym (eq-eqb (key_of o.1) k (sym (eqb-true k (key_of o.1) h))) ∙ e))
            off false h = h

none_keyed : (keys : List ℕ) → length (flat_map (λ key. with_key key []) keys) ≡ 0
none_keyed [] = refl
none_keyed (k ∷ keys) = none_keyed keys

no_more_keyed : (keys : List ℕ) (os : List (ℕ × Op)) → all_differ keys ≡ true → length (flat_map (λ key. with_key key os) keys) ≤ length os
no_more_keyed keys [] d = omega (arith, none_keyed keys)
no_more_keyed keys (o ∷ os) d = omega (arith, one_key o os keys d, no_more_keyed keys os d, at_most_one (is_in (key_of o.1) keys))
  where
    at_most_one : (b : Bool) → (if b then 1 else 0) ≤ 1
    at_most_one true = omega arith
    at_most_one false = omega arith

no_more_nodes : (keys : List ℕ) (os : List (ℕ × Op)) → length (flat_map (λ key. nodes_with_key (with_key key os)) keys) ≤ length (flat_map (λ key. with_key key os) keys)
no_more_nodes [] os = omega arith
no_more_nodes (k ∷ keys) os = omega (
  arith,
  fewer (with_key k os),
  no_more_nodes keys os,
  length-append (nodes_with_key (with_key k os)) (flat_map (λ key. nodes_with_key (with_key key os)) keys),
  length-append (with_key k os) (flat_map (λ key. with_key key os) keys),
)

length_enum : (ops : List Op) (n : ℕ) → length (enumerate_from n ops) ≡ length ops
length_enum [] n = refl
length_enum (o ∷ ops) n = ap suc (length_enum ops (n + 1))

pub no_more_works : (ops : List Op) → length (works ops) ≤ length ops
no_more_works ops =
    let keys = rising (map key_of ops) in
    omega (arith, length-map (nodes ops) (work_of ops), no_more_nodes keys (enumerate_from 0 ops), no_more_keyed keys (enumerate_from 0 ops) (rising_differ keys (with_numbers_rise (map key_of ops) [] refl)), length_enum ops 0)

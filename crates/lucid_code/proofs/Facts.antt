-- Facts of the operations of valid code, and facts for its tests.
use Rattle.std.proofs.Common.{◌≡◌, ◌≢◌, ℕ, ◌+◌, ◌<◌, ◌≤◌, List, [], ◌∷◌, Bool, true, false, not, ◌&&◌, ◌||◌, inl, inr, Option, None, Some, nat_eq, nat_lt, nat_le, refl, sym, ap, ap₂, subst, ◌∙◌, ⊎_elim, arith}
use Rattle.std.specs.List.{list_all, enumerate_from}
use Rattle.std.proofs.lemmas.Bool.{and_parts, and_from, or_cases, or_left, or_right, eqb-true, eq-eqb, true≢false, not-true, le-leb, leb-true, lt-ltb, ltb-true, cases_lt}
use Rattle.lucid_code.specs.declared.op.Act.{Act}
use Rattle.lucid_code.specs.declared.op.Op.{Op}
use Rattle.lucid_code.specs.Guards.{contradict}
use Rattle.lucid_code.specs.Nodes.{is_one_node, nodes_follow_writes, reads_from, stands_before}
use Rattle.lucid_code.specs.Uses.{called_by, is_same, key_of, read_by, slot_of, writes, written_by}
use Rattle.lucid_code.specs.Parts.{CodeParts}
use Rattle.lucid_code.specs.Valid.{IsValid, all_apart, goes_before, may_share, op_is_sound, reads_follow_writes, writers_go_before}
use Rattle.lucid_code.proofs.Members.{In, Pairwise, all_in, all_from, any_from, any_gives, numbered, place_from, element_of}

-- two that share a place contradict
abbrev pub Shares : (Act → Option ℕ) → Op → Op → Type 0
Shares place x y = (k : ℕ) → place x.act ≡ Some k → place y.act ≡ Some k → contradict x.guard y.guard ≡ true

-- the first reads nothing that the second writes
abbrev pub Blind : Op → Op → Type 0
Blind x y = (k : ℕ) → In k (read_by x) → written_by y.act ≢ Some k

-- Facts of an operation and a later one; if nodes count, they are not calls of one array if the second reads the first.
pub record Pair (nodes : Bool) (x y : Op) : Type 0 where
  pub fields : Shares written_by x y
  pub calls : Shares called_by x y
  pub slots : Shares slot_of x y
  pub blind : Blind x y
  pub keys : (k : ℕ) → In k (read_by y) → written_by x.act ≡ Some k → key_of x ≤ key_of y
  pub apart : nodes ≡ true → (k : ℕ) → In k (read_by y) → written_by x.act ≡ Some k → (g : ℕ) → called_by x.act ≡ Some g → called_by y.act ≡ Some g → ⊥

pub record Facts (nodes : Bool) (ops : List Op) : Type 0 where
  pub own : (o : Op) → In o ops → Blind o o
  pub pairs : Pairwise (Pair nodes) ops

-- ---- tests of one place

pub is_same_some : (x : Option ℕ) (k : ℕ) → x ≡ Some k → is_same x (Some k) ≡ true
is_same_some x k e = ap (λ y. is_same y (Some k)) e ∙ eq-eqb k k refl

pub same_is : (x : Option ℕ) (k : ℕ) → is_same x (Some k) ≡ true → x ≡ Some k
same_is None k e = absurd (true≢false (sym e))
same_is (Some j) k e = ap (λ (n : ℕ). Some n) (eqb-true j k e)

share_from : (x y : Option ℕ) (c : Bool) → (not (is_same x y) || c) ≡ true → (k : ℕ) → x ≡ Some k → y ≡ Some k → c ≡ true
share_from x y c h k e f = ⊎_elim (λ n. absurd (true≢false (sym (ap₂ is_same e f ∙ eq-eqb k k refl) ∙ not-true (is_same x y) n))) (λ t. t) (or_cases (not (is_same x y)) c h)

implies : (b d : Bool) → (b ≡ true → d ≡ true) → (not b || d) ≡ true
implies true d f = f refl
implies false d f = refl

share_into : (x y : Option ℕ) (c : Bool) → ((k : ℕ) → x ≡ Some k → y ≡ Some k → c ≡ true) → (not (is_same x y) || c) ≡ true
share_into None y c f = refl
share_into (Some a) None c f = refl
share_into (Some a) (Some b) c f = implies (nat_eq a b) c (λ e. f a refl (ap (λ (n : ℕ). Some n) (sym (eqb-true a b e))))

shares_from : (place : Act → Option ℕ) (ops : List Op) → all_apart place ops ≡ true → Pairwise (Shares place) ops
shares_from place [] h = tt
shares_from place (o ∷ ops) h =
    let parts = and_parts (list_all (may_share place o) ops) (all_apart place ops) h in
    (λ p i. share_from (place o.act) (place p.act) (contradict o.guard p.guard) (all_in (may_share place o) ops parts.0 p i), shares_from place ops parts.1)

pub shares_into : (place : Act → Option ℕ) (ops : List Op) → Pairwise (Shares place) ops → all_apart place ops ≡ true
shares_into place [] h = refl
shares_into place (o ∷ ops) h =
    and_from (list_all (may_share place o) ops) (all_apart place ops) (all_from (may_share place o) ops (λ p i. share_into (place o.act) (place p.act) (contradict o.guard p.guard) (h.0 p i))) (shares_into place ops h.1)

-- ---- from the tests

module _ (all : List (ℕ × Op)) (test : list_all (λ (r : ℕ × Op). list_all (writers_go_before all r) (read_by r.1)) all ≡ true) where
  pub read_before : (r w : ℕ × Op) → In r all → In w all → (k : ℕ) → In k (read_by r.1) → written_by w.1.act ≡ Some k → (w.0 < r.0) × (key_of w.1 ≤ key_of r.1)
  read_before r w i j k h e =
      let row = all_in (writers_go_before all r) (read_by r.1) (all_in (λ (r : ℕ × Op). list_all (writers_go_before all r) (read_by r.1)) all test r i) k h in
      let here = all_in (λ (w : ℕ × Op). not (writes w.1 k) || goes_before w r) all row w j in
      ⊎_elim
      (λ n. absurd (true≢false (sym (is_same_some (written_by w.1.act) k e) ∙ not-true (writes w.1 k) n)))
      (λ t. let parts = and_parts (nat_lt w.0 r.0) (nat_le (key_of w.1) (key_of r.1)) t in (ltb-true w.0 r.0 parts.0, leb-true (key_of w.1) (key_of r.1) parts.1))
      (or_cases (not (writes w.1 k)) (goes_before w r) here)

  own_at : (p : ℕ × Op) → In p all → Blind p.1 p.1
  own_at p i k h e = let g = read_before p p i i k h e in absurd (omega (arith, g.0))

  owns : (n : ℕ) (ops : List Op) → ((p : ℕ × Op) → In p (enumerate_from n ops) → In p all) → (o : Op) → In o ops → Blind o o
  owns n ops within o i = let p = numbered o n ops i in own_at (p.0, o) (within (p.0, o) p.1)

  blinds : (n : ℕ) (ops : List Op) → ((p : ℕ × Op) → In p (enumerate_from n ops) → In p all) → Pairwise (λ x y. Blind x y × ((k : ℕ) → In k (read_by y) → written_by x.act ≡ Some k → key_of x ≤ key_of y)) ops
  blinds n [] within = tt
  blinds n (o ∷ ops) within = (
    λ y i.
        let p = numbered y (n + 1) ops i in
        let later = place_from (n + 1) ops (p.0, y) p.1 in
        let here = within (n, o) (inl refl) in
        let there = within (p.0, y) (inr p.1) in
        (λ k h e. let g = read_before (n, o) (p.0, y) here there k h e in absurd (omega (arith, g.0, later)), λ k h e. (read_before (p.0, y) (n, o) there here k h e).1),
    blinds (n + 1) ops (λ p i. within p (inr i)),
  )

pub facts_of : (ops : List Op) → all_apart written_by ops ≡ true → all_apart called_by ops ≡ true → all_apart slot_of ops ≡ true → reads_follow_writes ops ≡ true → Facts false ops
facts_of ops f c s r = record {
  own = owns (enumerate_from 0 ops) r 0 ops (λ p i. i);
  pairs = zip ops (shares_from written_by ops f) (shares_from called_by ops c) (shares_from slot_of ops s) (blinds (enumerate_from 0 ops) r 0 ops (λ p i. i));
}
  where
    zip : (ops : List Op) → Pairwise (Shares written_by) ops → Pairwise (Shares called_by) ops → Pairwise (Shares slot_of) ops
        → Pairwise (λ x y. Blind x y × ((k : ℕ) → In k (read_by y) → written_by x.act ≡ Some k → key_of x ≤ key_of y)) ops → Pairwise (Pair false) ops
    zip [] f c s b = tt
    zip (o ∷ ops) f c s b = (
      λ y i. record { fields = f.0 y i; calls = c.0 y i; slots = s.0 y i; blind = (b.0 y i).0; keys = (b.0 y i).1; apart = λ e. absurd (true≢false (sym e)) },
      zip ops f.1 c.1 s.1 b.1,
    )

pub code_facts : (code : CodeParts) → IsValid code → Facts false code.ops
code_facts code v = facts_of code.ops v.fields v.calls v.slots v.reads

pub sound_each : (code : CodeParts) → IsValid code → (q : Op) → In q code.ops → op_is_sound code.fields code.inputs code.arrays q ≡ true
sound_each code v = all_in (op_is_sound code.fields code.inputs code.arrays) code.ops v.ops

-- ---- to the tests

pub record Tests (ops : List Op) : Type 0 where
  pub fields : all_apart written_by ops ≡ true
  pub calls : all_apart called_by ops ≡ true
  pub slots : all_apart slot_of ops ≡ true
  pub reads : reads_follow_writes ops ≡ true

only_pairs : (nodes : Bool) (place : Act → Option ℕ) → ((x y : Op) → Pair nodes x y → Shares place x y) → (ops : List Op) → Pairwise (Pair nodes) ops → Pairwise (Shares place) ops
only_pairs nodes place f [] h = tt
only_pairs nodes place f (o ∷ ops) h = (λ y i. f o y (h.0 y i), only_pairs nodes place f ops h.1)

-- the position of a writer of a field, and of a reader
pub record Goes (nodes : Bool) (w r : ℕ × Op) : Type 0 where
  pub place : w.0 < r.0
  pub key : key_of w.1 ≤ key_of r.1
  pub apart : nodes ≡ true → (g : ℕ) → called_by w.1.act ≡ Some g → called_by r.1.act ≡ Some g → ⊥

pub placed_goes : (nodes : Bool) (n : ℕ) (ops : List Op) → Facts nodes ops → (r w : ℕ × Op) → In r (enumerate_from n ops) → In w (enumerate_from n ops) → (k : ℕ) → In k (read_by r.1) → written_by w.1.act ≡ Some k → Goes nodes w r
placed_goes nodes n [] f r w i j k h e = absurd i
placed_goes nodes n (o ∷ ops) f r w (inl i) (inl j) k h e =
    absurd (f.own o (inl refl) k (subst (λ (p : ℕ × Op). In k (read_by p.1)) i h) (ap (λ (p : ℕ × Op). written_by p.1.act) (sym j) ∙ e))
placed_goes nodes n (o ∷ ops) f r w (inl i) (inr j) k h e =
    absurd ((f.pairs.0 w.1 (element_of (n + 1) ops w j)).blind k (subst (λ (p : ℕ × Op). In k (read_by p.1)) i h) e)
placed_goes nodes n (o ∷ ops) f r w (inr i) (inl j) k h e =
    let p = f.pairs.0 r.1 (element_of (n + 1) ops r i) in
    let later = place_from (n + 1) ops r i in
    let made : written_by o.act ≡ Some k = ap (λ (p : ℕ × Op). written_by p.1.act) (sym j) ∙ e in
    subst (λ (v : ℕ × Op). Goes nodes v r) (sym j) (record { place = omega (arith, later); key = p.keys k h made; apart = λ t g. p.apart t k h made g })
placed_goes nodes n (o ∷ ops) f r w (inr i) (inr j) k h e = placed_goes nodes (n + 1) ops (record { own = λ p q. f.own p (inr q); pairs = f.pairs.1 }) r w i j k h e

-- of operations at their places: each that writes a field goes before each that reads it
pub reads_from_pairs : (all : List (ℕ × Op)) → ((r w : ℕ × Op) → In r all → In w all → (k : ℕ) → In k (read_by r.1) → written_by w.1.act ≡ Some k → (w.0 < r.0) × (key_of w.1 ≤ key_of r.1))
    → list_all (λ (r : ℕ × Op). list_all (writers_go_before all r) (read_by r.1)) all ≡ true
reads_from_pairs all f =
    all_from (λ (r : ℕ × Op). list_all (writers_go_before all r) (read_by r.1)) all (λ r i.
    all_from (writers_go_before all r) (read_by r.1) (λ k h.
    all_from (λ (w : ℕ × Op). not (writes w.1 k) || goes_before w r) all (λ w j.
    implies (writes w.1 k) (goes_before w r) (λ e.
    let g = f r w i j k h (same_is (written_by w.1.act) k e) in
    and_from (nat_lt w.0 r.0) (nat_le (key_of w.1) (key_of r.1)) (lt-ltb w.0 r.0 g.0) (le-leb (key_of w.1) (key_of r.1) g.1)))))

pub tests_of : (nodes : Bool) (ops : List Op) → Facts nodes ops → Tests ops
tests_of nodes ops f = record {
  fields = shares_into written_by ops (only_pairs nodes written_by (λ x y p. p.fields) ops f.pairs);
  calls = shares_into called_by ops (only_pairs nodes called_by (λ x y p. p.calls) ops f.pairs);
  slots = shares_into slot_of ops (only_pairs nodes slot_of (λ x y p. p.slots) ops f.pairs);
  reads = reads_from_pairs (enumerate_from 0 ops) (λ r w i j k h e. let g = placed_goes nodes 0 ops f r w i j k h e in (g.place, g.key));
}

-- ---- nodes

same_called : (x y : Option ℕ) → is_same x y ≡ true → (g : ℕ) × (x ≡ Some g) × (y ≡ Some g)
same_called None y e = absurd (true≢false (sym e))
same_called (Some a) None e = absurd (true≢false (sym e))
same_called (Some a) (Some b) e = (a, refl, ap (λ (n : ℕ). Some n) (sym (eqb-true a b e)))

never_true : (b : Bool) → (b ≡ true → ⊥) → not b ≡ true
never_true true f = absurd (f refl)
never_true false f = refl

-- An operation at its place goes before another, and is no node with it.
pub record Before (w r : ℕ × Op) : Type 0 where
  pub place : w.0 < r.0
  pub key : key_of w.1 ≤ key_of r.1
  pub apart : (g : ℕ) → called_by w.1.act ≡ Some g → called_by r.1.act ≡ Some g → ⊥

stands : (w r : ℕ × Op) → Before w r → (not (is_one_node w r) && stands_before w r) ≡ true
stands w r g =
    and_from (not (is_one_node w r)) (stands_before w r)
    (never_true (is_one_node w r) (λ t. ⊎_elim
    (λ s. let z : w.0 ≡ r.0 = eqb-true w.0 r.0 s in absurd (omega (arith, z, g.place)))
    (λ s. let c = same_called (called_by w.1.act) (called_by r.1.act) s in g.apart c.0 c.1 c.2)
    (or_cases (nat_eq w.0 r.0) (is_same (called_by w.1.act) (called_by r.1.act)) t)))
    (⊎_elim
    (λ lt. or_left (nat_lt (key_of w.1) (key_of r.1)) (nat_eq (key_of w.1) (key_of r.1) && nat_lt w.0 r.0) (lt-ltb (key_of w.1) (key_of r.1) lt))
    (λ ge. or_right (nat_lt (key_of w.1) (key_of r.1)) (nat_eq (key_of w.1) (key_of r.1) && nat_lt w.0 r.0)
    (and_from (nat_eq (key_of w.1) (key_of r.1)) (nat_lt w.0 r.0) (eq-eqb (key_of w.1) (key_of r.1) (omega (arith, ge, g.key))) (lt-ltb w.0 r.0 g.place)))
    (cases_lt (key_of w.1) (key_of r.1)))

pub nodes_from_pairs : (all : List (ℕ × Op)) → ((r w : ℕ × Op) → In r all → In w all → (k : ℕ) → In k (read_by r.1) → written_by w.1.act ≡ Some k → Before w r)
    → list_all (λ (r : ℕ × Op). list_all (λ (w : ℕ × Op). not (reads_from r.1 w.1) || not (is_one_node w r) && stands_before w r) all) all ≡ true
nodes_from_pairs all f =
    all_from (λ (r : ℕ × Op). list_all (λ (w : ℕ × Op). not (reads_from r.1 w.1) || not (is_one_node w r) && stands_before w r) all) all (λ r i.
    all_from (λ (w : ℕ × Op). not (reads_from r.1 w.1) || not (is_one_node w r) && stands_before w r) all (λ w j.
    implies (reads_from r.1 w.1) (not (is_one_node w r) && stands_before w r) (λ e.
    let found = any_gives (writes w.1) (read_by r.1) e in
    stands w r (f r w i j found.one found.there (same_is (written_by w.1.act) found.one found.passes)))))

-- The tests of nodes follow.
pub nodes_of : (ops : List Op) → Facts true ops → nodes_follow_writes ops ≡ true
nodes_of ops f = nodes_from_pairs (enumerate_from 0 ops) (λ r w i j k h e. let g = placed_goes true 0 ops f r w i j k h e in record { place = g.place; key = g.key; apart = g.apart refl })

module _ (all : List (ℕ × Op)) (test : list_all (λ (r : ℕ × Op). list_all (λ (w : ℕ × Op). not (reads_from r.1 w.1) || not (is_one_node w r) && stands_before w r) all) all ≡ true) where
  pub nodes_apart : (r w : ℕ × Op) → In r all → In w all → (k : ℕ) → In k (read_by r.1) → written_by w.1.act ≡ Some k → (g : ℕ) → called_by w.1.act ≡ Some g → called_by r.1.act ≡ Some g → ⊥
  nodes_apart r w i j k h e g c d =
      let here = all_in (λ (w : ℕ × Op). not (reads_from r.1 w.1) || not (is_one_node w r) && stands_before w r) all (all_in (λ (r : ℕ × Op). list_all (λ (w : ℕ × Op). not (reads_from r.1 w.1) || not (is_one_node w r) && stands_before w r) all) all test r i) w j in
      let reads : reads_from r.1 w.1 ≡ true = any_from (writes w.1) (read_by r.1) k h (is_same_some (written_by w.1.act) k e) in
      let one : is_one_node w r ≡ true = or_right (nat_eq w.0 r.0) (is_same (called_by w.1.act) (called_by r.1.act)) (ap₂ is_same c d ∙ eq-eqb g g refl) in
      ⊎_elim
      (λ n. true≢false (sym reads ∙ not-true (reads_from r.1 w.1) n))
      (λ t. true≢false (sym one ∙ not-true (is_one_node w r) (and_parts (not (is_one_node w r)) (stands_before w r) t).0))
      (or_cases (not (reads_from r.1 w.1)) (not (is_one_node w r) && stands_before w r) here)

  with_nodes : (n : ℕ) (ops : List Op) → ((p : ℕ × Op) → In p (enumerate_from n ops) → In p all) → Pairwise (Pair false) ops → Pairwise (Pair true) ops
  with_nodes n [] within f = tt
  with_nodes n (o ∷ ops) within f = (
    λ y i.
        let p = f.0 y i in
        let q = numbered y (n + 1) ops i in
        record { fields = p.fields; calls = p.calls; slots = p.slots; blind = p.blind; keys = p.keys; apart = λ t k h e. nodes_apart (q.0, y) (n, o) (within (q.0, y) (inr q.1)) (within (n, o) (inl refl)) k h e },
    with_nodes (n + 1) ops (λ p i. within p (inr i)) f.1,
  )

pub facts_with_nodes : (ops : List Op) → nodes_follow_writes ops ≡ true → Facts false ops → Facts true ops
facts_with_nodes ops t f = record { own = f.own; pairs = with_nodes (enumerate_from 0 ops) t 0 ops (λ p i. i) f.pairs }

-- Stages of nodes at their places keep the rules of a placed code, and the arrays of operations, one after another.
use Rattle.std.proofs.Common.{◌≡◌, ℕ, zero, suc, ◌+◌, ◌<◌, ◌≤◌, List, [], ◌∷◌, ◌++◌, Bool, true, false, not, ◌||◌, ◌⊎◌, inl, inr, if◌then◌else◌, Option, Some, None, length, map, nat_eq, nat_lt, slice_get, slice_index_or, refl, sym, ap, ap₂, subst, ◌∙◌, ⊎_elim, append_assoc, arith}
use Rattle.std.specs.List.{flat_map, list_all, list_any, enumerate_from, AllByRecursion}
use Rattle.std.specs.Option.{option_map_or, option_to_list}
use Rattle.std.proofs.lemmas.Bool.{and_parts, and_from, or_cases, or_left, or_right, eqb-true, eq-eqb, true≢false, false_from_ne_true, lt-ltb}
use Rattle.std.proofs.lemmas.List.{length-map}
use Rattle.std.proofs.lemmas.List.Folds.{flat_map-map}
use Rattle.std.proofs.lemmas.Option.{same_Some, slice_get_within, get_or_from_slice_get}
use Rattle.lucid_code.specs.declared.op.Literal.{Literal}
use Rattle.lucid_code.specs.declared.op.Op.{Op}
use Rattle.lucid_code.specs.Guards.{Fields, all_hold, contradict}
use Rattle.lucid_code.specs.Parts.{CodeParts}
use Rattle.lucid_code.specs.Uses.{written_by, called_by, read_by, is_same, writes, field_of, operands_of}
use Rattle.lucid_code.specs.Valid.{IsValid, op_is_sound, names_are_there, inputs_stay, widths_agree, act_keeps_limits, literal_fits}
use Rattle.lucid_tables.specs.declared.stage.StageCode.{StageCode}
use Rattle.lucid_tables.specs.declared.table.Row.{Row}
use Rattle.lucid_tables.specs.declared.table.Table.{Table}
use Rattle.lucid_tables.specs.Numbers.{is_in, all_differ, none_shared, with_number, with_numbers}
use Rattle.lucid_tables.specs.Placed as placed
use Rattle.lucid_tables.specs.Placed.{IsPlaced, MeansGuards, named_by, named_in, names_once, tables_of, ops_in, read_in, written_in, called_in, arrays_agree, left_out_rightly, writes_go_before}
use Rattle.lucid_tables.specs.Rows.{acts, matches, table, named_fields, rows_of, guard_of}
use Rattle.lucid_tables.proofs.Members.{In, in_filter, into_filter, is_in_append, head_shares_none, tail_shares_none}
use Rattle.lucid_tables.proofs.Rising.{in_with_numbers}
use Rattle.lucid_tables.proofs.RowsAct.{table_acts}
use Rattle.lucid_merge.specs.Laws.{GuardsContradict, named_ops}
use Rattle.lucid_stages.specs.declared.stage.Seat.{Seat}
use Rattle.lucid_stages.specs.declared.node.Work.{Work}
use Rattle.lucid_stages.specs.declared.stage.Stage.{Stage}
use Rattle.lucid_stages.specs.Stage.{rows_at, no_table}
use Rattle.lucid_stages.specs.Marks.{feeds}
use Rattle.lucid_stages.specs.Placing.{arrays_at, arrays_in, stage_code}
use Rattle.lucid_code.specs.Nodes.{nodes}
use Rattle.lucid_stages.specs.NodeWorks.{works, reads_at, writes_at, work_of}
use Rattle.lucid_stages.proofs.NodeTablesLemmas.{guard_fields}
use Rattle.lucid_stages.proofs.StageLemmas.{group, all_ops, stage_at, table_at, Holds, of_group, to_group, one_seat, group_differs}
use Rattle.lucid_stages.proofs.NodeWorksLemmas.{in_flat, of_flat, in_number, in_enum, enum_in, covered, found, apart, together}

-- ---- lists

-- a test that all numbers of a list pass
all_from : (f : ℕ → Bool) (xs : List ℕ) → ((i : ℕ) → is_in i xs ≡ true → f i ≡ true) → list_all f xs ≡ true
all_from f [] h = refl
all_from f (x ∷ xs) h = and_from (f x) (list_all f xs) (h x (or_left (nat_eq x x) (is_in x xs) (eq-eqb x x refl))) (all_from f xs (λ i n. h i (or_right (nat_eq x i) (is_in i xs) n)))

all_over : {A : Type 0} (f : A → Bool) (xs : List A) → ((x : A) → In x xs → f x ≡ true) → list_all f xs ≡ true
all_over f [] h = refl
all_over f (x ∷ xs) h = and_from (f x) (list_all f xs) (h x (inl refl)) (all_over f xs (λ y i. h y (inr i)))

each_over : {A : Type 0} (P : A → Type 0) (xs : List A) → ((x : A) → In x xs → P x) → AllByRecursion P xs
each_over P [] h = tt
each_over P (x ∷ xs) h = (h x (inl refl), each_over P xs (λ y i. h y (inr i)))

map_same : {A : Type 0} (f : A → A) (xs : List A) → ((x : A) → In x xs → f x ≡ x) → map f xs ≡ xs
map_same f [] h = refl
map_same {A} f (x ∷ xs) h = ap₂ (λ (y : A) (ys : List A). y ∷ ys) (h x (inl refl)) (map_same f xs (λ y i. h y (inr i)))

any_at : {A : Type 0} (f : A → Bool) (xs : List A) → list_any f xs ≡ true → (j : ℕ) × (y : A) × (slice_get xs j ≡ Some y) × (f y ≡ true)
any_at f [] h = absurd (true≢false (sym h))
any_at {A} f (x ∷ xs) h = by (or_cases (f x) (list_any f xs) h) (λ r. any_at f xs r)
  where
    by : (f x ≡ true) ⊎ (list_any f xs ≡ true) → (list_any f xs ≡ true → (j : ℕ) × (y : A) × (slice_get xs j ≡ Some y) × (f y ≡ true)) → (j : ℕ) × (y : A) × (slice_get (x ∷ xs) j ≡ Some y) × (f y ≡ true)
    by (inl e) again = (0, x, refl, e)
    by (inr e) again = let r = again e in (suc r.0, r.1, r.2, r.3)

at_any : {A : Type 0} (f : A → Bool) (xs : List A) (x : A) → In x xs → f x ≡ true → list_any f xs ≡ true
at_any f [] x h e = absurd h
at_any f (y ∷ xs) x (inl s) e = or_left (f y) (list_any f xs) (ap f (sym s) ∙ e)
at_any f (y ∷ xs) x (inr h) e = or_right (f y) (list_any f xs) (at_any f xs x h e)

-- lists that have numbers which belong to one place each share none
apart_by : {A : Type 0} (of : A → List ℕ) (xs : List A) (n : ℕ) (R : ℕ → ℕ → Type 0) → ((i j k : ℕ) → R i j → R i k → j ≡ k) →
    ((j : ℕ) (x : A) → slice_get xs j ≡ Some x → (i : ℕ) → is_in i (of x) ≡ true → R i (n + j)) → none_shared of xs ≡ true
apart_by of [] n R one at = refl
apart_by of (x ∷ xs) n R one at =
    and_from (list_all (λ i. not (list_any (λ y. is_in i (of y)) xs)) (of x)) (none_shared of xs)
    (all_from (λ i. not (list_any (λ y. is_in i (of y)) xs)) (of x) (λ i h. ap not (false_from_ne_true (list_any (λ y. is_in i (of y)) xs) (λ g.
    let r = any_at (λ y. is_in i (of y)) xs g in
    let same : n + 0 ≡ n + suc r.0 = one i (n + 0) (n + suc r.0) (at 0 x refl i h) (at (suc r.0) r.1 r.2 i r.3) in
    absurd (omega (arith, same))))))
    (apart_by of xs (n + 1) R one (λ j y e i h. subst (R i) (omega arith) (at (suc j) y e i h)))

flat_of_flat : {A B C : Type 0} (f : B → List C) (g : A → List B) (xs : List A) → flat_map f (flat_map g xs) ≡ flat_map (λ x. flat_map f (g x)) xs
flat_of_flat f g [] = refl
flat_of_flat {C = C} f g (x ∷ xs) = flat_append (g x) ∙ ap (λ l. flat_map f (g x) ++ l) (flat_of_flat f g xs)
  where
    assoc : (a b c : List C) → (a ++ b) ++ c ≡ a ++ (b ++ c)
    assoc [] b c = refl
    assoc (x ∷ a) b c = ap (λ l. x ∷ l) (assoc a b c)

    flat_append : (ys : _) → flat_map f (ys ++ flat_map g xs) ≡ flat_map f ys ++ flat_map f (flat_map g xs)
    flat_append [] = refl
    flat_append (y ∷ ys) = ap (λ l. f y ++ l) (flat_append ys) ∙ sym (assoc (f y) (flat_map f ys) (flat_map f (flat_map g xs)))

none_join : {B : Type 0} (of : B → List ℕ) (xs ys : List B) → none_shared of xs ≡ true → none_shared of ys ≡ true → ((i : ℕ) → is_in i (flat_map of xs) ≡ true → is_in i (flat_map of ys) ≡ false) → none_shared of (xs ++ ys) ≡ true
none_join of [] ys h g d = g
none_join of (x ∷ xs) ys h g d =
    let parts = and_parts (list_all (λ i. not (list_any (λ y. is_in i (of y)) xs)) (of x)) (none_shared of xs) h in
    and_from (list_all (λ i. not (list_any (λ y. is_in i (of y)) (xs ++ ys))) (of x)) (none_shared of (xs ++ ys))
    (all_from (λ i. not (list_any (λ y. is_in i (of y)) (xs ++ ys))) (of x) (λ i m. ap not (false_from_ne_true (list_any (λ y. is_in i (of y)) (xs ++ ys)) (λ n.
    ⊎_elim
    (λ e. true≢false (sym (flat_any xs i e) ∙ head_shares_none of x xs i h m))
    (λ e. true≢false (sym (flat_any ys i e) ∙ d i (is_in_append i (of x) (flat_map of xs) ∙ or_left (is_in i (of x)) (is_in i (flat_map of xs)) m)))
    (split xs i n)))))
    (none_join of xs ys parts.1 g (λ i m. d i (is_in_append i (of x) (flat_map of xs) ∙ or_right (is_in i (of x)) (is_in i (flat_map of xs)) m)))
  where
    flat_any : (zs : List _) (i : ℕ) → list_any (λ y. is_in i (of y)) zs ≡ true → is_in i (flat_map of zs) ≡ true
    flat_any [] i e = e
    flat_any (z ∷ zs) i e = is_in_append i (of z) (flat_map of zs) ∙ ⊎_elim (λ a. or_left (is_in i (of z)) (is_in i (flat_map of zs)) a) (λ b. or_right (is_in i (of z)) (is_in i (flat_map of zs)) (flat_any zs i b)) (or_cases (is_in i (of z)) (list_any (λ y. is_in i (of y)) zs) e)

    split : (zs : List _) (i : ℕ) → list_any (λ y. is_in i (of y)) (zs ++ ys) ≡ true → (list_any (λ y. is_in i (of y)) zs ≡ true) ⊎ (list_any (λ y. is_in i (of y)) ys ≡ true)
    split [] i e = inr e
    split (z ∷ zs) i e = ⊎_elim (λ a. inl (or_left (is_in i (of z)) (list_any (λ y. is_in i (of y)) zs) a)) (λ b. ⊎_elim (λ c. inl (or_right (is_in i (of z)) (list_any (λ y. is_in i (of y)) zs) c)) (λ c. inr c) (split zs i b))
        (or_cases (is_in i (of z)) (list_any (λ y. is_in i (of y)) (zs ++ ys)) e)

none_flat : {A B : Type 0} (of : B → List ℕ) (f : A → List B) (xs : List A) → none_shared (λ x. flat_map of (f x)) xs ≡ true → AllByRecursion (λ x. none_shared of (f x) ≡ true) xs → none_shared of (flat_map f xs) ≡ true
none_flat of f [] h a = refl
none_flat of f (x ∷ xs) h a = none_join of (f x) (flat_map f xs) a.0 (none_flat of f xs (tail_shares_none (λ x. flat_map of (f x)) x xs h) a.1)
    (λ i m. ap (is_in i) (flat_of_flat of f xs) ∙ head_shares_none (λ x. flat_map of (f x)) x xs i h m)

-- a read of a stage is written in none from it on
before_by : (ops : List Op) (codes : List StageCode) (n : ℕ) (R W : ℕ → ℕ → Type 0) → ((f j k : ℕ) → R f j → W f k → j ≤ k → ⊥) →
    ((j : ℕ) (c : StageCode) → slice_get codes j ≡ Some c → (f : ℕ) → is_in f (read_in ops c) ≡ true → R f (n + j)) →
    ((j : ℕ) (c : StageCode) → slice_get codes j ≡ Some c → (f : ℕ) → written_in ops c f ≡ true → W f (n + j)) → writes_go_before ops codes ≡ true
before_by ops [] n R W never read written = refl
before_by ops (c ∷ codes) n R W never read written =
    and_from (list_all (λ f. not (list_any (λ later. written_in ops later f) (c ∷ codes))) (read_in ops c)) (writes_go_before ops codes)
    (all_from (λ f. not (list_any (λ later. written_in ops later f) (c ∷ codes))) (read_in ops c) (λ f h. ap not (false_from_ne_true (list_any (λ later. written_in ops later f) (c ∷ codes)) (λ g.
    let r = any_at (λ later. written_in ops later f) (c ∷ codes) g in
    never f (n + 0) (n + r.0) (read 0 c refl f h) (written r.0 r.1 r.2 f r.3) (omega arith)))))
    (before_by ops codes (n + 1) R W never (λ j d e f h. subst (R f) (omega arith) (read (suc j) d e f h)) (λ j d e f h. subst (W f) (omega arith) (written (suc j) d e f h)))

-- ---- stages and their tables

-- a table of the stages has a place
table_in : (stages : List Stage) (t : Table) → In t (flat_map (λ (s : Stage). s.tables) stages) → (k j : ℕ) × (t ≡ table_at (stage_at stages k) j)
table_in [] t h = absurd h
table_in (s ∷ stages) t h = by (split s.tables h) (λ r. table_in stages t r)
  where
    split : (xs : List Table) → In t (xs ++ flat_map (λ (s : Stage). s.tables) stages) → ((j : ℕ) × (t ≡ slice_index_or xs j no_table)) ⊎ In t (flat_map (λ (s : Stage). s.tables) stages)
    split [] h = inr h
    split (x ∷ xs) (inl e) = inl (0, e)
    split (x ∷ xs) (inr r) = ⊎_elim (λ (f : (j : ℕ) × (t ≡ slice_index_or xs j no_table)). inl (suc f.0, f.1)) (λ e. inr e) (split xs r)

    by : ((j : ℕ) × (t ≡ slice_index_or s.tables j no_table)) ⊎ In t (flat_map (λ (s : Stage). s.tables) stages) → (In t (flat_map (λ (s : Stage). s.tables) stages) → (k j : ℕ) × (t ≡ table_at (stage_at stages k) j)) →
        (k j : ℕ) × (t ≡ table_at (stage_at (s ∷ stages) k) j)
    by (inl e) again = (0, e.0, e.1)
    by (inr r) again = let f = again r in (suc f.0, f.1, f.2)

-- an operation that a stage names is in one of its tables
named_table : (tables : List Table) (i : ℕ) → is_in i (flat_map named_by tables) ≡ true → (j : ℕ) × (is_in i (named_by (slice_index_or tables j no_table)) ≡ true)
named_table [] i h = absurd (true≢false (sym h))
named_table (t ∷ tables) i h = by (or_cases (is_in i (named_by t)) (is_in i (flat_map named_by tables)) (sym (is_in_append i (named_by t) (flat_map named_by tables)) ∙ h)) (λ r. named_table tables i r)
  where
    by : (is_in i (named_by t) ≡ true) ⊎ (is_in i (flat_map named_by tables) ≡ true) → (is_in i (flat_map named_by tables) ≡ true → (j : ℕ) × (is_in i (named_by (slice_index_or tables j no_table)) ≡ true)) → (j : ℕ) × (is_in i (named_by (slice_index_or (t ∷ tables) j no_table)) ≡ true)
    by (inl e) again = (0, e)
    by (inr r) again = let f = again r in (suc f.0, f.1)

table_named : (tables : List Table) (i j : ℕ) → is_in i (named_by (slice_index_or tables j no_table)) ≡ true → is_in i (flat_map named_by tables) ≡ true
table_named [] i j h = absurd (true≢false (sym h))
table_named (t ∷ tables) i zero h = is_in_append i (named_by t) (flat_map named_by tables) ∙ or_left (is_in i (named_by t)) (is_in i (flat_map named_by tables)) h
table_named (t ∷ tables) i (suc j) h = is_in_append i (named_by t) (flat_map named_by tables) ∙ or_right (is_in i (named_by t)) (is_in i (flat_map named_by tables)) (table_named tables i j h)

stage_named : (ops : List Op) (stages : List Stage) (k i : ℕ) → is_in i (flat_map named_by (stage_at stages k).tables) ≡ true → list_any (λ s. is_in i (named_in s)) (map (stage_code ops) stages) ≡ true
stage_named ops [] k i h = absurd (true≢false (sym h))
stage_named ops (s ∷ stages) zero i h = or_left (is_in i (flat_map named_by s.tables)) (list_any (λ s. is_in i (named_in s)) (map (stage_code ops) stages)) h
stage_named ops (s ∷ stages) (suc k) i h = or_right (is_in i (flat_map named_by s.tables)) (list_any (λ s. is_in i (named_in s)) (map (stage_code ops) stages)) (stage_named ops stages k i h)

-- a stage as it is placed
code_at : (ops : List Op) (stages : List Stage) (j : ℕ) (c : StageCode) → slice_get (map (stage_code ops) stages) j ≡ Some c → c ≡ stage_code ops (stage_at stages j)
code_at ops [] j c e = absurd (no e)
  where
    no : None ≡ Some c → ⊥
    no e = cc
code_at ops (s ∷ stages) zero c e = sym (same_Some (stage_code ops s) c e)
code_at ops (s ∷ stages) (suc j) c e = code_at ops stages j c e

-- an operation that acts in a table is named by it
acts_named : (fields : Fields) (rows : List Row) (i : ℕ) → is_in i (acts fields rows) ≡ true → is_in i (named_ops rows) ≡ true
acts_named fields [] i h = h
acts_named fields (r ∷ rows) i h = is_in_append i r.ops (named_ops rows) ∙ by (matches fields r) h (λ e. acts_named fields rows i e)
  where
    by : (b : Bool) → is_in i (if b then r.ops else acts fields rows) ≡ true → (is_in i (acts fields rows) ≡ true → is_in i (named_ops rows) ≡ true) → (is_in i r.ops || is_in i (named_ops rows)) ≡ true
    by true h again = or_left (is_in i r.ops) (is_in i (named_ops rows)) h
    by false h again = or_right (is_in i r.ops) (is_in i (named_ops rows)) (again h)

guard_at : (ops : List Op) (i : ℕ) (o : Op) → slice_get ops i ≡ Some o → guard_of ops i ≡ o.guard
guard_at ops i o e = ap (λ (f : Option Op). option_map_or (λ (p : Op). p.guard) f []) e

-- an operation acts in a table that is made of it exactly where its guard holds
acts_rightly : (ops : List Op) (fields : Fields) (is : List ℕ) (i : ℕ) → is_in i is ≡ true → is_in i (flat_map (λ j. acts fields (rows_of (guard_of ops j) j)) is) ≡ all_hold fields (guard_of ops i)
acts_rightly ops fields is i h = by (all_hold fields (guard_of ops i)) refl
  where
    by : (b : Bool) → all_hold fields (guard_of ops i) ≡ b → is_in i (flat_map (λ j. acts fields (rows_of (guard_of ops j) j)) is) ≡ all_hold fields (guard_of ops i)
    by true e = in_numbers is i (λ j. acts fields (rows_of (guard_of ops j) j)) h (ap (is_in i) (table_acts (guard_of ops i) i fields) ∙ ap (λ b. is_in i (if b then i ∷ [] else [])) e ∙ or_left (nat_eq i i) false (eq-eqb i i refl)) ∙ sym e
      where
        in_numbers : (xs : List ℕ) (i : ℕ) (of : ℕ → List ℕ) → is_in i xs ≡ true → is_in i (of i) ≡ true → is_in i (flat_map of xs) ≡ true
        in_numbers [] i of n m = absurd (true≢false (sym n))
        in_numbers (x ∷ xs) i of n m = is_in_append i (of x) (flat_map of xs) ∙ ⊎_elim
            (λ s. or_left (is_in i (of x)) (is_in i (flat_map of xs)) (ap (λ j. is_in i (of j)) (eqb-true x i s) ∙ m))
            (λ r. or_right (is_in i (of x)) (is_in i (flat_map of xs)) (in_numbers xs i of r m))
            (or_cases (nat_eq x i) (is_in i xs) n)
    by false e = false_from_ne_true (is_in i (flat_map (λ j. acts fields (rows_of (guard_of ops j) j)) is)) (λ n.
        let r = of_flat (λ j. acts fields (rows_of (guard_of ops j) j)) is i n in
        own r.0 (all_hold fields (guard_of ops r.0)) refl (sym (ap (is_in i) (table_acts (guard_of ops r.0) r.0 fields)) ∙ r.2)) ∙ sym e
      where
        own : (j : ℕ) (b : Bool) → all_hold fields (guard_of ops j) ≡ b → is_in i (if all_hold fields (guard_of ops j) then j ∷ [] else []) ≡ true → ⊥
        own j b s m = two j b s (sym (ap (λ b. is_in i (if b then j ∷ [] else [])) s) ∙ m)
          where
            two : (j : ℕ) (b : Bool) → all_hold fields (guard_of ops j) ≡ b → is_in i (if b then j ∷ [] else []) ≡ true → ⊥
            two j true s m = ⊎_elim (λ x. true≢false (sym s ∙ ap (λ k. all_hold fields (guard_of ops k)) (eqb-true j i x) ∙ e)) (λ x. true≢false (sym x)) (or_cases (nat_eq j i) false m)
            two j false s m = true≢false (sym m)

-- ---- the reads of operations

-- the fields of a guard are read
guard_read : (o : Op) (f : ℕ) → is_in f (map (λ (l : Literal). l.field) o.guard) ≡ true → is_in f (read_by o) ≡ true
guard_read o f h = is_in_append f (map (λ (l : Literal). l.field) o.guard) (flat_map field_of (operands_of o.act)) ∙ or_left (is_in f (map (λ (l : Literal). l.field) o.guard)) (is_in f (flat_map field_of (operands_of o.act))) h

-- the reads and writes of an operation are those of its node
node_reads : (ops : List Op) (places : List ℕ) (i f : ℕ) (o : Op) → is_in i places ≡ true → slice_get ops i ≡ Some o → is_in f (read_by o) ≡ true → is_in f (reads_at ops places) ≡ true
node_reads ops [] i f o h e n = absurd (true≢false (sym h))
node_reads ops (x ∷ places) i f o h e n =
    is_in_append f (option_map_or read_by (slice_get ops x) []) (reads_at ops places) ∙ ⊎_elim
    (λ s. or_left (is_in f (option_map_or read_by (slice_get ops x) [])) (is_in f (reads_at ops places)) (ap (λ (r : Option Op). is_in f (option_map_or read_by r [])) (ap (slice_get ops) (eqb-true x i s) ∙ e) ∙ n))
    (λ r. or_right (is_in f (option_map_or read_by (slice_get ops x) [])) (is_in f (reads_at ops places)) (node_reads ops places i f o r e n))
    (or_cases (nat_eq x i) (is_in i places) h)

node_writes : (ops : List Op) (places : List ℕ) (i f : ℕ) (o : Op) → is_in i places ≡ true → slice_get ops i ≡ Some o → is_in f (option_to_list (written_by o.act)) ≡ true → is_in f (writes_at ops places) ≡ true
node_writes ops [] i f o h e n = absurd (true≢false (sym h))
node_writes ops (x ∷ places) i f o h e n =
    let of = λ (r : Option Op). option_map_or (λ (o : Op). option_to_list (written_by o.act)) r [] in
    is_in_append f (of (slice_get ops x)) (writes_at ops places) ∙ ⊎_elim
    (λ s. or_left (is_in f (of (slice_get ops x))) (is_in f (writes_at ops places)) (ap (λ (r : Option Op). is_in f (of r)) (ap (slice_get ops) (eqb-true x i s) ∙ e) ∙ n))
    (λ r. or_right (is_in f (of (slice_get ops x))) (is_in f (writes_at ops places)) (node_writes ops places i f o r e n))
    (or_cases (nat_eq x i) (is_in i places) h)

writes_one : (o : Op) (f : ℕ) → writes o f ≡ true → is_in f (option_to_list (written_by o.act)) ≡ true
writes_one o f h = by (written_by o.act) h
  where
    by : (w : Option ℕ) → is_same w (Some f) ≡ true → is_in f (option_to_list w) ≡ true
    by None h = h
    by (Some k) h = or_left (nat_eq k f) false h

same_work : (ops : List Op) (ns : List _) (w : Work) → In w (map (work_of ops) ns) → (w.reads ≡ reads_at ops w.ops) × (w.writes ≡ writes_at ops w.ops)
same_work ops [] w h = absurd h
same_work ops (n ∷ ns) w (inl e) = (
  ap (λ (w : Work). w.reads) e ∙ ap (λ (w : Work). reads_at ops w.ops) (sym e),
  ap (λ (w : Work). w.writes) e ∙ ap (λ (w : Work). writes_at ops w.ops) (sym e),
)
same_work ops (n ∷ ns) w (inr h) = same_work ops ns w h

-- an operation of valid code
pub sound_at : (f : Op → Bool) (ops : List Op) (i : ℕ) (o : Op) → list_all f ops ≡ true → slice_get ops i ≡ Some o → f o ≡ true
sound_at f [] i o h e = absurd (no e)
  where
    no : None ≡ Some o → ⊥
    no e = cc
sound_at f (p ∷ ops) zero o h e = ap f (sym (same_Some p o e)) ∙ (and_parts (f p) (list_all f ops) h).0
sound_at f (p ∷ ops) (suc i) o h e = sound_at f ops i o (and_parts (f p) (list_all f ops) h).1 e

reads_there : (code : CodeParts) (i f : ℕ) (o : Op) → IsValid code → slice_get code.ops i ≡ Some o → is_in f (read_by o) ≡ true → nat_lt f (length code.fields) ≡ true
reads_there code i f o valid e n =
    let test = op_is_sound code.fields code.inputs code.arrays in
    let sound = sound_at test code.ops i o valid.ops e in
    let outer = and_parts _ (list_all (literal_fits code.fields) o.guard) sound in
    let third = and_parts _ (act_keeps_limits o.act) outer.0 in
    let second = and_parts _ (widths_agree code.fields code.arrays o.act) third.0 in
    let first = and_parts (names_are_there code.fields code.arrays o) (inputs_stay code.inputs o.act) second.0 in
    let names = and_parts _ (option_map_or (λ a. nat_lt a (length code.arrays)) (called_by o.act) true) first.0 in
    let reads = and_parts (list_all (λ k. nat_lt k (length code.fields)) (read_by o)) (option_map_or (λ k. nat_lt k (length code.fields)) (written_by o.act) true) names.0 in
    at (read_by o) reads.0 n
  where
    at : (xs : List ℕ) → list_all (λ k. nat_lt k (length code.fields)) xs ≡ true → is_in f xs ≡ true → nat_lt f (length code.fields) ≡ true
    at [] h m = absurd (true≢false (sym m))
    at (x ∷ xs) h m =
        let parts = and_parts (nat_lt x (length code.fields)) (list_all (λ k. nat_lt k (length code.fields)) xs) h in
        ⊎_elim (λ s. ap (λ k. nat_lt k (length code.fields)) (sym (eqb-true x f s)) ∙ parts.0) (λ r. at xs parts.1 r) (or_cases (nat_eq x f) (is_in f xs) m)

-- ---- the arrays of a stage

pub arrays_append : (ops : List Op) (places more : List ℕ) → arrays_at ops (places ++ more) ≡ arrays_at ops places ++ arrays_at ops more
arrays_append ops [] more = refl
arrays_append ops (i ∷ places) more =
    ap (λ l. option_map_or (λ (o : Op). option_to_list (called_by o.act)) (slice_get ops i) [] ++ l) (arrays_append ops places more)
    ∙ sym (append_assoc (option_map_or (λ (o : Op). option_to_list (called_by o.act)) (slice_get ops i) []) (arrays_at ops places) (arrays_at ops more))

pub numbers_append : (xs more rest : List ℕ) → with_numbers xs (more ++ rest) ≡ with_numbers (with_numbers xs more) rest
numbers_append xs [] rest = refl
numbers_append xs (k ∷ more) rest = numbers_append (with_number xs k) more rest

pub more_arrays : (ops : List Op) (xs places more : List ℕ) → with_numbers xs (arrays_at ops (places ++ more)) ≡ with_numbers (with_numbers xs (arrays_at ops places)) (arrays_at ops more)
more_arrays ops xs places more = ap (with_numbers xs) (arrays_append ops places more) ∙ numbers_append xs (arrays_at ops places) (arrays_at ops more)

called_from : (ops : List Op) (is : List ℕ) (g : ℕ) → is_in g (arrays_at ops is) ≡ true → (i : ℕ) × (o : Op) × (is_in i is ≡ true) × (slice_get ops i ≡ Some o) × (called_by o.act ≡ Some g)
called_from ops is g h =
    let r = of_flat (λ i. option_map_or (λ (o : Op). option_to_list (called_by o.act)) (slice_get ops i) []) is g h in
    by r.0 (in_number r.0 is r.1) (slice_get ops r.0) refl r.2
  where
    call : (i : ℕ) → is_in i is ≡ true → (o : Op) → slice_get ops i ≡ Some o → (c : Option ℕ) → called_by o.act ≡ c → is_in g (option_to_list c) ≡ true → (i : ℕ) × (o : Op) × (is_in i is ≡ true) × (slice_get ops i ≡ Some o) × (called_by o.act ≡ Some g)
    call i m o e None d n = absurd (true≢false (sym n))
    call i m o e (Some f) d n = (i, o, m, e, d ∙ ap Some (⊎_elim (λ s. eqb-true f g s) (λ s. absurd (true≢false (sym s))) (or_cases (nat_eq f g) false n)))

    by : (i : ℕ) → is_in i is ≡ true → (r : Option Op) → slice_get ops i ≡ r → is_in g (option_map_or (λ (o : Op). option_to_list (called_by o.act)) r []) ≡ true → (i : ℕ) × (o : Op) × (is_in i is ≡ true) × (slice_get ops i ≡ Some o) × (called_by o.act ≡ Some g)
    by i m None e n = absurd (true≢false (sym n))
    by i m (Some o) e n = call i m o e (called_by o.act) refl n

called_to : (ops : List Op) (is : List ℕ) (i g : ℕ) (o : Op) → is_in i is ≡ true → slice_get ops i ≡ Some o → called_by o.act ≡ Some g → is_in g (arrays_at ops is) ≡ true
called_to ops [] i g o m e d = absurd (true≢false (sym m))
called_to ops (x ∷ is) i g o m e d =
    let of = λ (r : Option Op). option_map_or (λ (o : Op). option_to_list (called_by o.act)) r [] in
    is_in_append g (of (slice_get ops x)) (arrays_at ops is) ∙ ⊎_elim
    (λ s. or_left (is_in g (of (slice_get ops x))) (is_in g (arrays_at ops is)) (ap (λ (r : Option Op). is_in g (of r)) (ap (slice_get ops) (eqb-true x i s) ∙ e) ∙ ap (λ c. is_in g (option_to_list c)) d ∙ or_left (nat_eq g g) false (eq-eqb g g refl)))
    (λ r. or_right (is_in g (of (slice_get ops x))) (is_in g (arrays_at ops is)) (called_to ops is i g o r e d))
    (or_cases (nat_eq x i) (is_in i is) m)

-- the operations that a stage names, with their numbers
ops_from : (ops : List Op) (c : StageCode) (i : ℕ) (o : Op) → In (i, o) (ops_in ops c) → (slice_get ops i ≡ Some o) × (is_in i (named_in c) ≡ true)
ops_from ops c i o h =
    let parts = in_filter (λ (o : ℕ × Op). is_in o.0 (named_in c)) (i, o) (enumerate_from 0 ops) h in
    let place = enum_in ops 0 i o parts.0 in
    (subst (λ k. slice_get ops k ≡ Some o) (sym (place.1 ∙ omega arith)) place.2, parts.1)

ops_to : (ops : List Op) (c : StageCode) (i : ℕ) (o : Op) → slice_get ops i ≡ Some o → is_in i (named_in c) ≡ true → In (i, o) (ops_in ops c)
ops_to ops c i o e n = into_filter (λ (o : ℕ × Op). is_in o.0 (named_in c)) (i, o) (enumerate_from 0 ops) (subst (λ k. In (k, o) (enumerate_from 0 ops)) (omega arith) (in_enum ops 0 i o e)) n

agree : (ops : List Op) (tables : List Table) → arrays_agree ops (record { tables = tables; arrays = arrays_in ops tables }) ≡ true
agree ops tables = and_from (list_all (λ g. is_in g (called_in ops c)) c.arrays) (list_all (λ g. is_in g c.arrays) (called_in ops c))
    (all_from (λ g. is_in g (called_in ops c)) c.arrays (λ g h.
    let r = called_from ops (named_in c) g (sym (in_with_numbers (arrays_at ops (named_in c)) [] g) ∙ h) in
    in_flat (λ (o : ℕ × Op). option_to_list (called_by o.1.act)) (ops_in ops c) (r.0, r.1) g (ops_to ops c r.0 r.1 r.3 r.2) (ap (λ x. is_in g (option_to_list x)) r.4 ∙ or_left (nat_eq g g) false (eq-eqb g g refl))))
    (all_from (λ g. is_in g c.arrays) (called_in ops c) (λ g h.
    let r = of_flat (λ (o : ℕ × Op). option_to_list (called_by o.1.act)) (ops_in ops c) g h in
    let o = ops_from ops c r.0.0 r.0.1 r.1 in
    in_with_numbers (arrays_at ops (named_in c)) [] g ∙ called_to ops (named_in c) r.0.0 g r.0.1 o.1 o.0 (one (called_by r.0.1.act) g r.2)))
  where
    c : StageCode
    c = record { tables = tables; arrays = arrays_in ops tables }

    one : (x : Option ℕ) (g : ℕ) → is_in g (option_to_list x) ≡ true → x ≡ Some g
    one None g n = absurd (true≢false (sym n))
    one (Some f) g n = ap Some (⊎_elim (λ s. eqb-true f g s) (λ s. absurd (true≢false (sym s))) (or_cases (nat_eq f g) false n))

-- ---- stages of nodes at their places

-- The tables of the stages are made of the nodes at their places, each node has one place, and writers precede readers.
pub record Seated (ops : List Op) (ss : List Seat) (stages : List Stage) : Type 0 where
  pub some : 0 < length stages
  pub holds : Holds ops ss stages
  pub ops_are : all_ops ss ≡ flat_map (λ (w : Work). w.ops) (works ops)
  pub nodes_are : (s : Seat) → In s ss → In s.node (works ops)
  pub order : (r w : Seat) → In r ss → In w ss → feeds w.node r.node ≡ true → w.at.stage < r.at.stage

module _ (contradicting : GuardsContradict) (code : CodeParts) (ss : List Seat) (stages : List Stage) (valid : IsValid code) (seated : Seated code.ops ss stages) where
  abbrev ops : List Op
  ops = code.ops

  abbrev codes : List StageCode
  codes = map (stage_code code.ops) stages

  holds : Holds ops ss stages
  holds = seated.holds

  ops_are : all_ops ss ≡ flat_map (λ (w : Work). w.ops) (works ops)
  ops_are = seated.ops_are

  differ : all_differ (all_ops ss) ≡ true
  differ = ap all_differ ops_are ∙ apart ops

  -- the operation of a place, and the node that it belongs to
  there : (k t i : ℕ) → is_in i (group k t ss) ≡ true → (o : Op) × (slice_get ops i ≡ Some o)
  there k t i h =
      let r = of_group k t ss i h in
      found ops i (sym (ap (is_in i) ops_are) ∙ in_flat (λ (s : Seat). s.node.ops) ss r.0 i r.1 r.4)

  tables : List Table
  tables = flat_map (λ (s : Stage). s.tables) stages

  tables_are : tables_of codes ≡ flat_map (λ (s : Stage). s.tables) stages
  tables_are = flat_map-map (λ (c : StageCode). c.tables) (stage_code ops) stages

  -- a fact of each place holds for each table
  each : (P : Table → Type 0) → ((k t : ℕ) → P (table_at (stage_at stages k) t)) → (t : Table) → In t (tables_of codes) → P t
  each P h t i =
      let r = table_in stages t (subst (In t) tables_are i) in
      subst P (sym r.2) (h r.0 r.1)

  named : (k t i : ℕ) → is_in i (named_by (table_at (stage_at stages k) t)) ≡ true → is_in i (group k t ss) ≡ true
  named k t i h = (holds.made k t).names i h

  -- an operation that a stage names belongs to a node of the stage
  in_stage : (k i : ℕ) → is_in i (flat_map named_by (stage_at stages k).tables) ≡ true → (s : Seat) × In s ss × (s.at.stage ≡ k) × (is_in i s.node.ops ≡ true)
  in_stage k i h =
      let r = named_table (stage_at stages k).tables i h in
      let s = of_group k r.0 ss i (named k r.0 i r.1) in
      (s.0, s.1, s.2, s.4)

  keys_read : (k t f : ℕ) → is_in f (table_at (stage_at stages k) t).keys ≡ true → (i : ℕ) × (o : Op) × (is_in i (group k t ss) ≡ true) × (slice_get ops i ≡ Some o) × (is_in f (read_by o) ≡ true)
  keys_read k t f h =
      let rows = rows_at (stage_at stages k) t in
      let in_rows : is_in f (named_fields rows) ≡ true = sym (ap (λ (x : Table). is_in f x.keys) (holds.keyed k t) ∙ in_with_numbers (named_fields rows) [] f) ∙ h in
      let r = of_flat (guard_fields ops) (group k t ss) f ((holds.made k t).fields f in_rows) in
      let m : is_in r.0 (group k t ss) ≡ true = in_number r.0 (group k t ss) r.1 in
      let o = there k t r.0 m in
      (r.0, o.0, m, o.1, guard_read o.0 f (sym (ap (λ (g : List Literal). is_in f (map (λ (l : Literal). l.field) g)) (guard_at ops r.0 o.0 o.1)) ∙ r.2))

  there_all : (k t : ℕ) → placed.names_are_there code (table_at (stage_at stages k) t) ≡ true
  there_all k t = and_from (list_all (λ i. nat_lt i (length ops)) (named_by (table_at (stage_at stages k) t))) (list_all (λ f. nat_lt f (length code.fields)) (table_at (stage_at stages k) t).keys)
      (all_from (λ i. nat_lt i (length ops)) (named_by (table_at (stage_at stages k) t)) (λ i h. let o = there k t i (named k t i h) in lt-ltb i (length ops) (slice_get_within ops i o.0 o.1)))
      (all_from (λ f. nat_lt f (length code.fields)) (table_at (stage_at stages k) t).keys (λ f h. let r = keys_read k t f h in reads_there code r.0 f r.1 valid r.3 r.4))

  means : (k t : ℕ) → MeansGuards code (table_at (stage_at stages k) t)
  means k t fields fits i o e n =
      ap (is_in i) ((holds.made k t).act fields) ∙ acts_rightly ops fields (group k t ss) i (named k t i n) ∙ ap (all_hold fields) (guard_at ops i o e)

  left : (x : ℕ × Op) → In x (enumerate_from 0 ops) → left_out_rightly codes x ≡ true
  left x h = by (list_any (λ s. is_in x.0 (named_in s)) codes) refl
    where
      o : slice_get ops x.0 ≡ Some x.1
      o = let place = enum_in ops 0 x.0 x.1 h in subst (λ k. slice_get ops k ≡ Some x.1) (sym (place.1 ∙ omega arith)) place.2

      seat : (s : Seat) × In s ss × (is_in x.0 s.node.ops ≡ true)
      seat = of_flat (λ (s : Seat). s.node.ops) ss x.0 (ap (is_in x.0) ops_are ∙ covered ops x.0 x.1 o)

      by : (b : Bool) → list_any (λ s. is_in x.0 (named_in s)) codes ≡ b → (list_any (λ s. is_in x.0 (named_in s)) codes || contradict x.1.guard x.1.guard) ≡ true
      by true e = or_left (list_any (λ s. is_in x.0 (named_in s)) codes) (contradict x.1.guard x.1.guard) e
      by false e = or_right (list_any (λ s. is_in x.0 (named_in s)) codes) (contradict x.1.guard x.1.guard)
          ((contradicting.guards x.1.guard).1 (λ fields m.
          let s = seat.0 in
          let k = s.at.stage in
          let t = s.at.table in
          let acting_here : is_in x.0 (acts fields (rows_at (stage_at stages k) t)) ≡ true =
          ap (is_in x.0) ((holds.made k t).act fields) ∙ acts_rightly ops fields (group k t ss) x.0 (to_group ss s x.0 seat.1 seat.2) ∙ ap (all_hold fields) (guard_at ops x.0 x.1 o) ∙ m in
          true≢false (sym (stage_named ops stages k x.0 (table_named (stage_at stages k).tables x.0 t (acts_named fields (rows_at (stage_at stages k) t) x.0 acting_here))) ∙ e)))

  tables_apart : none_shared named_by (tables_of codes) ≡ true
  tables_apart = none_flat named_by (λ (c : StageCode). c.tables) codes
      (apart_by named_in codes 0 (λ i k. is_in i (flat_map named_by (stage_at stages k).tables) ≡ true)
      (λ i j k a b.
      let s = in_stage j i a in
      let u = in_stage k i b in
      sym s.2 ∙ ap (λ (s : Seat). s.at.stage) (one_seat ss s.0 u.0 i differ s.1 u.1 s.3 u.3) ∙ u.2)
      (λ j c e i h. subst (λ k. is_in i (flat_map named_by (stage_at stages k).tables) ≡ true) (omega arith) (sym (ap (λ (c : StageCode). is_in i (named_in c)) (code_at ops stages j c e)) ∙ h)))
      (stage_tables stages (λ k. each_stage k))
    where
      each_stage : (k : ℕ) → none_shared named_by (stage_at stages k).tables ≡ true
      each_stage k = apart_by named_by (stage_at stages k).tables 0 (λ i t. is_in i (named_by (table_at (stage_at stages k) t)) ≡ true)
          (λ i t u a b.
          let s = of_group k t ss i (named k t i a) in
          let v = of_group k u ss i (named k u i b) in
          sym s.3 ∙ ap (λ (s : Seat). s.at.table) (one_seat ss s.0 v.0 i differ s.1 v.1 s.4 v.4) ∙ v.3)
          (λ t x e i h. subst (λ u. is_in i (named_by (table_at (stage_at stages k) u)) ≡ true) (omega arith) (ap (λ (y : Table). is_in i (named_by y)) (get_or_from_slice_get (stage_at stages k).tables t x no_table e) ∙ h))

      stage_tables : (xs : List Stage) → ((k : ℕ) → none_shared named_by (stage_at xs k).tables ≡ true) → AllByRecursion (λ (c : StageCode). none_shared named_by c.tables ≡ true) (map (stage_code ops) xs)
      stage_tables [] h = tt
      stage_tables (x ∷ xs) h = (h 0, stage_tables xs (λ k. h (suc k)))

  -- the calls of an array are in one stage
  array_stage : (k g : ℕ) → is_in g (arrays_in ops (stage_at stages k).tables) ≡ true → (s : Seat) × In s ss × (s.at.stage ≡ k) × (i : ℕ) × (o : Op) × (is_in i s.node.ops ≡ true) × (slice_get ops i ≡ Some o) × (called_by o.act ≡ Some g)
  array_stage k g h =
      let r = called_from ops (flat_map named_by (stage_at stages k).tables) g (sym (in_with_numbers (arrays_at ops (flat_map named_by (stage_at stages k).tables)) [] g) ∙ h) in
      let s = in_stage k r.0 r.2 in
      (s.0, s.1, s.2, r.0, r.1, s.3, r.3, r.4)

  arrays_apart : none_shared (λ (c : StageCode). c.arrays) codes ≡ true
  arrays_apart = apart_by (λ (c : StageCode). c.arrays) codes 0 (λ g k. is_in g (arrays_in ops (stage_at stages k).tables) ≡ true)
      (λ g j k a b.
      let s = array_stage j g a in
      let u = array_stage k g b in
      let here : is_in u.3 s.0.node.ops ≡ true = together ops s.0.node s.3 u.3 g s.4 u.4 (seated.nodes_are s.0 s.1) s.5 s.6 s.7 u.6 u.7 in
      sym s.2 ∙ ap (λ (s : Seat). s.at.stage) (one_seat ss s.0 u.0 u.3 differ s.1 u.1 here u.5) ∙ u.2)
      (λ j c e g h. subst (λ k. is_in g (arrays_in ops (stage_at stages k).tables) ≡ true) (omega arith) (sym (ap (λ (c : StageCode). is_in g c.arrays) (code_at ops stages j c e)) ∙ h))

  -- a read of a stage is one of a node in it
  reader : (k f : ℕ) → is_in f (read_in ops (stage_code ops (stage_at stages k))) ≡ true → (s : Seat) × In s ss × (s.at.stage ≡ k) × (is_in f s.node.reads ≡ true)
  reader k f h = ⊎_elim from_ops from_keys (or_cases (is_in f (flat_map (λ (o : ℕ × Op). read_by o.1) (ops_in ops c))) (is_in f (flat_map (λ (t : Table). t.keys) c.tables)) (sym (is_in_append f (flat_map (λ (o : ℕ × Op). read_by o.1) (ops_in ops c)) (flat_map (λ (t : Table). t.keys) c.tables)) ∙ h))
    where
      c : StageCode
      c = stage_code ops (stage_at stages k)

      does : (s : Seat) (i : ℕ) (o : Op) → In s ss → s.at.stage ≡ k → is_in i s.node.ops ≡ true → slice_get ops i ≡ Some o → is_in f (read_by o) ≡ true → (s : Seat) × In s ss × (s.at.stage ≡ k) × (is_in f s.node.reads ≡ true)
      does s i o m e n g r = (s, m, e, ap (is_in f) (same_work ops (nodes ops) s.node (seated.nodes_are s m)).0 ∙ node_reads ops s.node.ops i f o n g r)

      from_ops : is_in f (flat_map (λ (o : ℕ × Op). read_by o.1) (ops_in ops c)) ≡ true → (s : Seat) × In s ss × (s.at.stage ≡ k) × (is_in f s.node.reads ≡ true)
      from_ops e =
          let r = of_flat (λ (o : ℕ × Op). read_by o.1) (ops_in ops c) f e in
          let o = ops_from ops c r.0.0 r.0.1 r.1 in
          let s = in_stage k r.0.0 o.1 in
          does s.0 r.0.0 r.0.1 s.1 s.2 s.3 o.0 r.2

      from_keys : is_in f (flat_map (λ (t : Table). t.keys) c.tables) ≡ true → (s : Seat) × In s ss × (s.at.stage ≡ k) × (is_in f s.node.reads ≡ true)
      from_keys e =
          let r = of_flat (λ (t : Table). t.keys) (stage_at stages k).tables f e in
          let p = place (stage_at stages k).tables r.0 r.1 in
          let q = keys_read k p.0 f (sym (ap (λ (t : Table). is_in f t.keys) p.1) ∙ r.2) in
          let s = of_group k p.0 ss q.0 q.2 in
          does s.0 q.0 q.1 s.1 s.2 s.4 q.3 q.4
        where
          place : (xs : List Table) (t : Table) → In t xs → (j : ℕ) × (t ≡ slice_index_or xs j no_table)
          place [] t h = absurd h
          place (x ∷ xs) t (inl e) = (0, e)
          place (x ∷ xs) t (inr h) = let r = place xs t h in (suc r.0, r.1)

  writer : (k f : ℕ) → written_in ops (stage_code ops (stage_at stages k)) f ≡ true → (s : Seat) × In s ss × (s.at.stage ≡ k) × (is_in f s.node.writes ≡ true)
  writer k f h =
      let r = some (ops_in ops (stage_code ops (stage_at stages k))) h in
      let o = ops_from ops (stage_code ops (stage_at stages k)) r.0.0 r.0.1 r.1 in
      let s = in_stage k r.0.0 o.1 in
      (s.0, s.1, s.2, ap (is_in f) (same_work ops (nodes ops) s.0.node (seated.nodes_are s.0 s.1)).1 ∙ node_writes ops s.0.node.ops r.0.0 f r.0.1 s.3 o.0 (writes_one r.0.1 f r.2))
    where
      some : (os : List (ℕ × Op)) → list_any (λ (o : ℕ × Op). writes o.1 f) os ≡ true → (o : ℕ × Op) × In o os × (writes o.1 f ≡ true)
      some [] h = absurd (true≢false (sym h))
      some (o ∷ os) h = ⊎_elim (λ e. (o, inl refl, e)) (λ e. let r = some os e in (r.0, inr r.1, r.2)) (or_cases (writes o.1 f) (list_any (λ (o : ℕ × Op). writes o.1 f) os) h)

  ordered : writes_go_before ops codes ≡ true
  ordered = before_by ops codes 0
      (λ f k. is_in f (read_in ops (stage_code ops (stage_at stages k))) ≡ true)
      (λ f k. written_in ops (stage_code ops (stage_at stages k)) f ≡ true)
      (λ f j k a b le.
      let r = reader j f a in
      let w = writer k f b in
      let fed : feeds w.0.node r.0.node ≡ true = any_number (λ g. is_in g w.0.node.writes) r.0.node.reads f r.3 w.3 in
      let below : w.0.at.stage < r.0.at.stage = seated.order r.0 w.0 r.1 w.1 fed in
      let first : w.0.at.stage ≡ k = w.2 in
      let second : r.0.at.stage ≡ j = r.2 in
      absurd (omega (arith, le, below, first, second)))
      (λ j c e f h. subst (λ k. is_in f (read_in ops (stage_code ops (stage_at stages k))) ≡ true) (omega arith) (sym (ap (λ (c : StageCode). is_in f (read_in ops c)) (code_at ops stages j c e)) ∙ h))
      (λ j c e f h. subst (λ k. written_in ops (stage_code ops (stage_at stages k)) f ≡ true) (omega arith) (sym (ap (λ (c : StageCode). written_in ops c f) (code_at ops stages j c e)) ∙ h))
    where
      any_number : (t : ℕ → Bool) (xs : List ℕ) (f : ℕ) → is_in f xs ≡ true → t f ≡ true → list_any t xs ≡ true
      any_number t [] f h e = absurd (true≢false (sym h))
      any_number t (x ∷ xs) f h e = ⊎_elim (λ s. or_left (t x) (list_any t xs) (ap t (eqb-true x f s) ∙ e)) (λ r. or_right (t x) (list_any t xs) (any_number t xs f r e)) (or_cases (nat_eq x f) (is_in f xs) h)

  pub keeps : IsPlaced code (map (stage_code code.ops) stages)
  keeps = record {
    some = omega (arith, length-map stages (stage_code ops), seated.some);
    there = all_over (placed.names_are_there code) (tables_of codes) (each (λ t. placed.names_are_there code t ≡ true) there_all);
    keys = map_same (λ (t : Table). table t.rows) (tables_of codes) (each (λ t. table t.rows ≡ t) (λ k t. sym (holds.keyed k t)));
    once = all_over names_once (tables_of codes) (each (λ t. names_once t ≡ true) (λ k t. (holds.made k t).once (group_differs k t ss differ)));
    in_one_table = tables_apart;
    guards = each_over (MeansGuards code) (tables_of codes) (each (MeansGuards code) means);
    left_out = all_over (left_out_rightly codes) (enumerate_from 0 ops) left;
    arrays = agrees stages;
    in_one_stage = arrays_apart;
    order = ordered;
  }
    where
      agrees : (xs : List Stage) → list_all (arrays_agree ops) (map (stage_code ops) xs) ≡ true
      agrees [] = refl
      agrees (x ∷ xs) = and_from (arrays_agree ops (stage_code ops x)) (list_all (arrays_agree ops) (map (stage_code ops) xs)) (agree ops x.tables) (agrees xs)

-- Stages as they fill with the tables of nodes: the operations of these tables, and that no operation has two places.
use Rattle.std.proofs.Common.{◌≡◌, ◌≢◌, ℕ, zero, suc, ◌<◌, ◌≤◌, List, [], ◌∷◌, ◌++◌, Bool, true, false, ◌&&◌, ◌⊎◌, inl, inr, if◌then◌else◌, length, nat_eq, replicate, slice_index_or, slice_set, refl, sym, ap, ap₂, subst, ◌∙◌, ⊎_elim, append-nil, append_assoc, arith}
use Rattle.std.specs.List.{flat_map, AllByRecursion}
use Rattle.std.proofs.lemmas.Bool.{and_parts, and_from, eqb-true, eq-eqb, true≢false}
use Rattle.std.proofs.lemmas.Grind.{flat_map-append}
use Rattle.std.proofs.lemmas.List.{length-set, get_or-set_same, get_or-set_other}
use Rattle.lucid_code.specs.declared.op.Op.{Op}
use Rattle.lucid_tables.specs.declared.table.Table.{Table}
use Rattle.lucid_tables.specs.Numbers.{is_in, all_differ}
use Rattle.lucid_tables.specs.Rows.{table}
use Rattle.lucid_tables.proofs.Members.{In, differ_join as join}
use Rattle.lucid_conf.specs.declared.limits.Limits.{Limits}
use Rattle.lucid_merge.specs.Laws.{ProductsAct, ProductsName}
use Rattle.lucid_merge.specs.Product.{product}
use Rattle.lucid_stages.specs.declared.stage.Seat.{Seat}
use Rattle.lucid_stages.specs.declared.node.Work.{Work}
use Rattle.lucid_stages.specs.declared.stage.Pair.{Pair}
use Rattle.lucid_stages.specs.declared.stage.Stage.{Stage}
use Rattle.lucid_stages.specs.Stage.{seats, is_at, put_at, rows_at, with_node, seated, filled, laid, no_table, no_tables}
use Rattle.lucid_stages.specs.NodeTables.{merged, tables_of}
use Rattle.lucid_stages.proofs.MarksLemmas.{length_zeros}
use Rattle.lucid_stages.proofs.NodeTablesLemmas.{Made, made_product, made_merged, differ_split}
use Rattle.lucid_stages.proofs.NodeWorksLemmas.{in_flat, of_flat}

-- the operations of the nodes at a place, and of all nodes
abbrev pub at_place : ℕ → ℕ → Seat → List ℕ
at_place k t s = if is_at k t s then s.node.ops else []

abbrev pub group : ℕ → ℕ → List Seat → List ℕ
group k t ss = flat_map (at_place k t) ss

abbrev pub all_ops : List Seat → List ℕ
all_ops ss = flat_map (λ (s : Seat). s.node.ops) ss

abbrev pub stage_at : List Stage → ℕ → Stage
stage_at stages k = slice_index_or stages k no_tables

abbrev pub table_at : Stage → ℕ → Table
table_at s t = slice_index_or s.tables t no_table

-- ---- a table in its stage

pub put_in : (xs : List Table) (t : ℕ) (x : Table) → t < length xs → put_at xs t x ≡ slice_set xs t x
put_in [] t x h = absurd (omega (arith, h))
put_in (y ∷ ys) zero x h = refl
put_in (y ∷ ys) (suc t) x h = ap (λ l. y ∷ l) (put_in ys t x (omega (arith, h)))

pub put_end : (xs : List Table) (t : ℕ) (x : Table) → t ≡ length xs → put_at xs t x ≡ xs ++ x ∷ []
put_end [] t x h = refl
put_end (y ∷ ys) zero x h = absurd (omega (arith, h))
put_end (y ∷ ys) (suc t) x h = ap (λ l. y ∷ l) (put_end ys t x (omega (arith, h)))

pub put_same : (xs : List Table) (t : ℕ) (x : Table) → t ≤ length xs → slice_index_or (put_at xs t x) t no_table ≡ x
put_same [] zero x h = refl
put_same [] (suc t) x h = absurd (omega (arith, h))
put_same (y ∷ ys) zero x h = refl
put_same (y ∷ ys) (suc t) x h = put_same ys t x (omega (arith, h))

pub put_other : (xs : List Table) (t u : ℕ) (x : Table) → t ≤ length xs → u ≢ t → slice_index_or (put_at xs t x) u no_table ≡ slice_index_or xs u no_table
put_other [] zero zero x h n = absurd (n refl)
put_other [] zero (suc u) x h n = refl
put_other [] (suc t) u x h n = absurd (omega (arith, h))
put_other (y ∷ ys) zero zero x h n = absurd (n refl)
put_other (y ∷ ys) zero (suc u) x h n = refl
put_other (y ∷ ys) (suc t) zero x h n = refl
put_other (y ∷ ys) (suc t) (suc u) x h n = put_other ys t u x (omega (arith, h)) (λ e. n (ap suc e))

-- ---- the stages as they fill

pub filled_length : (ops : List Op) (stages : List Stage) (done : List Seat) → length (filled ops stages done) ≡ length stages
filled_length ops stages [] = refl
filled_length ops stages (s ∷ ss) = filled_length ops (seated ops s stages) ss ∙ length-set stages s.at.stage _

pub laid_length : (ops : List Op) (limits : Limits) (done : List Seat) → length (laid ops limits done) ≡ limits.stages
laid_length ops limits done = filled_length ops (replicate limits.stages no_tables) done ∙ length_zeros limits.stages no_tables

pub filled_push : (ops : List Op) (stages : List Stage) (done : List Seat) (s : Seat) → filled ops stages (done ++ s ∷ []) ≡ seated ops s (filled ops stages done)
filled_push ops stages [] s = refl
filled_push ops stages (d ∷ ds) s = filled_push ops (seated ops d stages) ds s

-- each place is a stage and a table of it, or the next one
abbrev pub InRange : List Op → List Stage → List Seat → Type 0
InRange ops stages [] = Unit {0}
InRange ops stages (s ∷ ss) = (s.at.stage < length stages) × (s.at.table ≤ length (stage_at stages s.at.stage).tables) × InRange ops (seated ops s stages) ss

-- every table of the stages is made of the operations at its place, with its keys
pub record Holds (ops : List Op) (done : List Seat) (stages : List Stage) : Type 0 where
  pub made : (k t : ℕ) → Made ops (group k t done) (rows_at (stage_at stages k) t)
  pub keyed : (k t : ℕ) → table_at (stage_at stages k) t ≡ table (rows_at (stage_at stages k) t)

group_push : (k t : ℕ) (done : List Seat) (s : Seat) → group k t (done ++ s ∷ []) ≡ group k t done ++ at_place k t s
group_push k t done s = flat_map-append (at_place k t) done (s ∷ []) ∙ ap (λ l. group k t done ++ l) (append-nil (at_place k t s))

module _ (acting : ProductsAct) (naming : ProductsName) (ops : List Op) where
  stays : (done : List Seat) (stages : List Stage) (s : Seat) (h : Holds ops done stages) (k t : ℕ) (x : Table) → table_at (stage_at stages k) t ≡ x → is_at k t s ≡ false → Made ops (group k t (done ++ s ∷ [])) x.rows × (x ≡ table x.rows)
  stays done stages s h k t x e apart = (
    subst (λ l. Made ops l x.rows) (sym (group_push k t done s ∙ ap (λ b. group k t done ++ (if b then s.node.ops else [])) apart ∙ append-nil (group k t done)))
        (subst (λ (y : Table). Made ops (group k t done) y.rows) e (h.made k t)),
    subst (λ (y : Table). y ≡ table y.rows) e (h.keyed k t),
  )

  grows : (done : List Seat) (stages : List Stage) (s : Seat) (h : Holds ops done stages) (k t : ℕ) → is_at k t s ≡ true →
      Made ops (group k t (done ++ s ∷ [])) (product (rows_at (stage_at stages k) t) (merged (tables_of ops s.node)))
  grows done stages s h k t here =
      subst (λ l. Made ops l (product (rows_at (stage_at stages k) t) (merged (tables_of ops s.node)))) (sym (group_push k t done s ∙ ap (λ b. group k t done ++ (if b then s.node.ops else [])) here))
      (made_product acting naming ops (group k t done) s.node.ops (rows_at (stage_at stages k) t) (merged (tables_of ops s.node)) (h.made k t) (made_merged acting naming ops s.node.ops))

  at : (done : List Seat) (stages : List Stage) (s : Seat) → Holds ops done stages → s.at.stage < length stages → s.at.table ≤ length (stage_at stages s.at.stage).tables → (k t : ℕ) (a b : Bool) → nat_eq s.at.stage k ≡ a → nat_eq s.at.table t ≡ b →
      Made ops (group k t (done ++ s ∷ [])) (rows_at (stage_at (seated ops s stages) k) t) × (table_at (stage_at (seated ops s stages) k) t ≡ table (rows_at (stage_at (seated ops s stages) k) t))
  at done stages s h l r k t true true ea eb =
      let old = stage_at stages s.at.stage in
      let x = table (product (rows_at old s.at.table) (merged (tables_of ops s.node))) in
      let place : s.at.stage ≡ k = eqb-true s.at.stage k ea in
      let column : s.at.table ≡ t = eqb-true s.at.table t eb in
      let here : table_at (stage_at (seated ops s stages) s.at.stage) s.at.table ≡ x = ap (λ (g : Stage). table_at g s.at.table) (get_or-set_same stages s.at.stage (with_node ops s.node s.at.table old) no_tables l) ∙ put_same old.tables s.at.table x r in
      let grown = grows done stages s h s.at.stage s.at.table (and_from (nat_eq s.at.stage s.at.stage) (nat_eq s.at.table s.at.table) (eq-eqb s.at.stage s.at.stage refl) (eq-eqb s.at.table s.at.table refl)) in
      subst (λ t. Made ops (group k t (done ++ s ∷ [])) (rows_at (stage_at (seated ops s stages) k) t) × (table_at (stage_at (seated ops s stages) k) t ≡ table (rows_at (stage_at (seated ops s stages) k) t))) column
      (subst (λ k. Made ops (group k s.at.table (done ++ s ∷ [])) (rows_at (stage_at (seated ops s stages) k) s.at.table) × (table_at (stage_at (seated ops s stages) k) s.at.table ≡ table (rows_at (stage_at (seated ops s stages) k) s.at.table))) place
      (subst (λ (y : Table). Made ops (group s.at.stage s.at.table (done ++ s ∷ [])) y.rows × (y ≡ table y.rows)) (sym here) (grown, refl)))
  at done stages s h l r k t true false ea eb =
      let old = stage_at stages s.at.stage in
      let x = table (product (rows_at old s.at.table) (merged (tables_of ops s.node))) in
      let place : s.at.stage ≡ k = eqb-true s.at.stage k ea in
      let other : t ≢ s.at.table = λ e. true≢false (sym (eq-eqb s.at.table t (sym e)) ∙ eb) in
      let here : table_at (stage_at (seated ops s stages) s.at.stage) t ≡ table_at old t = ap (λ (g : Stage). table_at g t) (get_or-set_same stages s.at.stage (with_node ops s.node s.at.table old) no_tables l) ∙ put_other old.tables s.at.table t x r other in
      subst (λ (y : Table). Made ops (group k t (done ++ s ∷ [])) y.rows × (y ≡ table y.rows)) (sym (ap (λ j. table_at (stage_at (seated ops s stages) j) t) (sym place) ∙ here))
      (stays done stages s h k t (table_at old t) (ap (λ j. table_at (stage_at stages j) t) (sym place)) (ap₂ (λ (x y : Bool). x && y) ea eb))
  at done stages s h l r k t false b ea eb =
      let other : k ≢ s.at.stage = λ e. true≢false (sym (eq-eqb s.at.stage k (sym e)) ∙ ea) in
      let here : table_at (stage_at (seated ops s stages) k) t ≡ table_at (stage_at stages k) t = ap (λ (g : Stage). table_at g t) (get_or-set_other stages s.at.stage k (with_node ops s.node s.at.table (stage_at stages s.at.stage)) no_tables other) in
      subst (λ (y : Table). Made ops (group k t (done ++ s ∷ [])) y.rows × (y ≡ table y.rows)) (sym here)
      (stays done stages s h k t (table_at (stage_at stages k) t) refl (ap (λ x. x && nat_eq s.at.table t) ea))

  pub filled_holds : (stages : List Stage) (done ss : List Seat) → Holds ops done stages → InRange ops stages ss → Holds ops (done ++ ss) (filled ops stages ss)
  filled_holds stages done [] h r = subst (λ l. Holds ops l stages) (sym (append-nil done)) h
  filled_holds stages done (s ∷ ss) h r =
      subst (λ l. Holds ops l (filled ops (seated ops s stages) ss)) (append_assoc done (s ∷ []) ss)
      (filled_holds (seated ops s stages) (done ++ s ∷ []) ss
      (record {
        made = λ k t. (at done stages s h r.0 r.1 k t (nat_eq s.at.stage k) (nat_eq s.at.table t) refl refl).0;
        keyed = λ k t. (at done stages s h r.0 r.1 k t (nat_eq s.at.stage k) (nat_eq s.at.table t) refl refl).1;
      })
      r.2)

pub none_yet : (m k : ℕ) → stage_at (replicate m no_tables) k ≡ no_tables
none_yet zero k = refl
none_yet (suc m) zero = refl
none_yet (suc m) (suc k) = none_yet m k

-- ---- nodes of seats

pub all_of : {A : Type 0} (P : A → Type 0) (xs : List A) (x : A) → AllByRecursion P xs → In x xs → P x
all_of P [] x a h = absurd h
all_of P (y ∷ xs) x a (inl e) = subst P (sym e) a.0
all_of P (y ∷ xs) x a (inr h) = all_of P xs x a.1 h

pub in_append : {A : Type 0} (x : A) (xs ys : List A) → In x (xs ++ ys) → In x xs ⊎ In x ys
in_append x [] ys h = inr h
in_append x (y ∷ xs) ys (inl e) = inl (inl e)
in_append x (y ∷ xs) ys (inr h) = ⊎_elim (λ e. inl (inr e)) (λ e. inr e) (in_append x xs ys h)

pub seat_node : (ns : List Work) (ps : List Pair) (s : Seat) → In s (seats ns ps) → In s.node ns
seat_node ns [] s h = absurd h
seat_node [] (p ∷ ps) s h = absurd h
seat_node (n ∷ ns) (p ∷ ps) s (inl e) = inl (ap (λ (s : Seat). s.node) e)
seat_node (n ∷ ns) (p ∷ ps) s (inr h) = inr (seat_node ns ps s h)

-- ---- no operation has two places

-- an operation at a place belongs to a node there
pub of_group : (k t : ℕ) (ss : List Seat) (i : ℕ) → is_in i (group k t ss) ≡ true → (s : Seat) × In s ss × (s.at.stage ≡ k) × (s.at.table ≡ t) × (is_in i s.node.ops ≡ true)
of_group k t ss i h =
    let r = of_flat (at_place k t) ss i h in
    by r.0 r.1 (is_at k t r.0) refl r.2
  where
    by : (s : Seat) → In s ss → (b : Bool) → is_at k t s ≡ b → is_in i (if b then s.node.ops else []) ≡ true → (s : Seat) × In s ss × (s.at.stage ≡ k) × (s.at.table ≡ t) × (is_in i s.node.ops ≡ true)
    by s m true e n =
        let parts = and_parts (nat_eq s.at.stage k) (nat_eq s.at.table t) e in
        (s, m, eqb-true s.at.stage k parts.0, eqb-true s.at.table t parts.1, n)
    by s m false e n = absurd (true≢false (sym n))

pub to_group : (ss : List Seat) (s : Seat) (i : ℕ) → In s ss → is_in i s.node.ops ≡ true → is_in i (group s.at.stage s.at.table ss) ≡ true
to_group ss s i m n = in_flat (at_place s.at.stage s.at.table) ss s i m
    (ap (λ b. is_in i (if b then s.node.ops else [])) (and_from (nat_eq s.at.stage s.at.stage) (nat_eq s.at.table s.at.table) (eq-eqb s.at.stage s.at.stage refl) (eq-eqb s.at.table s.at.table refl)) ∙ n)

-- an operation of two nodes belongs to one
pub one_seat : (ss : List Seat) (s u : Seat) (i : ℕ) → all_differ (all_ops ss) ≡ true → In s ss → In u ss → is_in i s.node.ops ≡ true → is_in i u.node.ops ≡ true → s ≡ u
one_seat [] s u i d h g m n = absurd h
one_seat (v ∷ ss) s u i d (inl h) (inl g) m n = h ∙ sym g
one_seat (v ∷ ss) s u i d (inl h) (inr g) m n =
    let parts = differ_split v.node.ops (all_ops ss) d in
    absurd (true≢false (sym (in_flat (λ (s : Seat). s.node.ops) ss u i g n) ∙ parts.2 i (sym (ap (λ (s : Seat). is_in i s.node.ops) h) ∙ m)))
one_seat (v ∷ ss) s u i d (inr h) (inl g) m n =
    let parts = differ_split v.node.ops (all_ops ss) d in
    absurd (true≢false (sym (in_flat (λ (s : Seat). s.node.ops) ss s i h m) ∙ parts.2 i (sym (ap (λ (s : Seat). is_in i s.node.ops) g) ∙ n)))
one_seat (v ∷ ss) s u i d (inr h) (inr g) m n = one_seat ss s u i (differ_split v.node.ops (all_ops ss) d).1 h g m n

pub group_differs : (k t : ℕ) (ss : List Seat) → all_differ (all_ops ss) ≡ true → all_differ (group k t ss) ≡ true
group_differs k t [] d = refl
group_differs k t (s ∷ ss) d = by (is_at k t s) (differ_split s.node.ops (all_ops ss) d) (λ e. group_differs k t ss e)
  where
    by : (b : Bool) → (all_differ s.node.ops ≡ true) × (all_differ (all_ops ss) ≡ true) × ((i : ℕ) → is_in i s.node.ops ≡ true → is_in i (all_ops ss) ≡ false) → (all_differ (all_ops ss) ≡ true → all_differ (group k t ss) ≡ true) →
        all_differ ((if b then s.node.ops else []) ++ group k t ss) ≡ true
    by true p again = joined s.node.ops p.0 (again p.1) (λ i m. none i (p.2 i m))
      where
        none : (i : ℕ) → is_in i (all_ops ss) ≡ false → is_in i (group k t ss) ≡ false
        none i e = off (is_in i (group k t ss)) refl
          where
            off : (b : Bool) → is_in i (group k t ss) ≡ b → is_in i (group k t ss) ≡ false
            off true h = let r = of_group k t ss i h in absurd (true≢false (sym (in_flat (λ (s : Seat). s.node.ops) ss r.0 i r.1 r.4) ∙ e))
            off false h = h

        joined : (xs : List ℕ) → all_differ xs ≡ true → all_differ (group k t ss) ≡ true → ((i : ℕ) → is_in i xs ≡ true → is_in i (group k t ss) ≡ false) → all_differ (xs ++ group k t ss) ≡ true
        joined xs a b c = join xs (group k t ss) a b c
    by false p again = again p.1

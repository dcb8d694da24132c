-- The places of a first fit keep the rules, and the stages that it fills are known table by table.
use Rattle.std.proofs.Common.{◌≡◌, ℕ, zero, suc, ◌+◌, ◌<◌, ◌≤◌, max, List, [], ◌∷◌, ◌++◌, Bool, true, false, ◌&&◌, inl, inr, if◌then◌else◌, map, length, nat_eq, nat_le, replicate, refl, sym, ap, ap₂, subst, ◌∙◌, append-nil, append_assoc, arith}
use Rattle.std.specs.List.{filter, AllByRecursion}
use Rattle.std.proofs.lemmas.Bool.{and_from, and_parts, eqb-true, eq-eqb, true≢false, le-leb}
use Rattle.std.proofs.lemmas.List.{get_or-set_same, get_or-set_other, map-append}
use Rattle.std.proofs.lemmas.List.Elements.{filter-append}
use Rattle.lucid_code.specs.declared.op.Op.{Op}
use Rattle.lucid_code.specs.Parts.{CodeParts}
use Rattle.lucid_tables.specs.declared.table.Row.{Row}
use Rattle.lucid_tables.specs.declared.table.Table.{Table}
use Rattle.lucid_tables.specs.Rows.{table}
use Rattle.lucid_tables.proofs.Members.{In}
use Rattle.lucid_conf.specs.declared.limits.Limits.{Limits}
use Rattle.lucid_stages.specs.declared.node.Work.{Work}
use Rattle.lucid_stages.specs.declared.stage.Pair.{Pair}
use Rattle.lucid_stages.specs.declared.stage.Seat.{Seat}
use Rattle.lucid_stages.specs.declared.stage.Stage.{Stage}
use Rattle.lucid_stages.specs.Stage.{seats, is_at, put_at, rows_at, no_tables, with_node, seated, laid}
use Rattle.lucid_layout.specs.Fit.{Admissible, IsFirstFit}
use Rattle.lucid_stages.specs.Marks.{Behind, feeds}
use Rattle.lucid_stages.specs.NodeWorks.{works}
use Rattle.lucid_stages.proofs.StageLemmas.{laid_length, filled_push, stage_at as stage_of, table_at as table_of, put_same, put_other, none_yet}
use Rattle.lucid_layout.proofs.LayoutLemmas.{in_order}
use Rattle.lucid_audit.specs.Audit.{IsThere, KeepsRules, nodes_at, with_work, grown, table_at, tables_in, takes, few_rows, rows_are_few, calls_in, arrays_at}

-- ---- one node more

nodes_push : (k t : ℕ) (done : List Seat) (s : Seat) (b : Bool) → is_at k t s ≡ b → nodes_at k t (done ++ s ∷ []) ≡ nodes_at k t done ++ map (λ (s : Seat). s.node) (if b then s ∷ [] else [])
nodes_push k t done s b e =
    ap (map (λ (s : Seat). s.node)) (filter-append (is_at k t) done (s ∷ []) ∙ ap (λ b. filter (is_at k t) done ++ (if b then s ∷ [] else [])) e)
    ∙ map-append (λ (s : Seat). s.node) (filter (is_at k t) done) (if b then s ∷ [] else [])

grown_push : (ops : List Op) (t : List Row) (ns : List Work) (n : Work) → grown ops t (ns ++ n ∷ []) ≡ with_work ops (grown ops t ns) n
grown_push ops t [] n = refl
grown_push ops t (m ∷ ns) n = grown_push ops (with_work ops t m) ns n

few_push : (ops : List Op) (most : ℕ) (t : List Row) (ns : List Work) (n : Work) → few_rows ops most t ns ≡ true → takes ops most (grown ops t ns) n ≡ true → few_rows ops most t (ns ++ n ∷ []) ≡ true
few_push ops most t [] n f h = and_from (takes ops most t n) true h refl
few_push ops most t (m ∷ ns) n f h =
    let parts = and_parts (takes ops most t m) (few_rows ops most (with_work ops t m) ns) f in
    and_from (takes ops most t m) (few_rows ops most (with_work ops t m) (ns ++ n ∷ [])) parts.0 (few_push ops most (with_work ops t m) ns n parts.1 h)

length_push : {A : Type 0} (xs : List A) (x : A) (b : Bool) → length (xs ++ (if b then x ∷ [] else [])) ≡ (if b then length xs + 1 else length xs)
length_push [] x true = refl
length_push [] x false = refl
length_push (y ∷ xs) x true = omega (arith, length_push xs x true)
length_push (y ∷ xs) x false = omega (arith, length_push xs x false)

arrays_push : (k : ℕ) (done : List Seat) (s : Seat) (b : Bool) → calls_in k s ≡ b → arrays_at k (done ++ s ∷ []) ≡ (if b then arrays_at k done + 1 else arrays_at k done)
arrays_push k done s b e = ap length (filter-append (calls_in k) done (s ∷ []) ∙ ap (λ b. filter (calls_in k) done ++ (if b then s ∷ [] else [])) e) ∙ length_push (filter (calls_in k) done) s b

tables_push : (k : ℕ) (done : List Seat) (s : Seat) → tables_in k (done ++ s ∷ []) ≡ max (tables_in k done) (tables_in k (s ∷ []))
tables_push k [] s = omega arith
tables_push k (d ∷ ds) s = by (nat_eq d.at.stage k) (tables_push k ds s)
  where
    by : (b : Bool) → tables_in k (ds ++ s ∷ []) ≡ max (tables_in k ds) (tables_in k (s ∷ [])) →
        (if b then max (d.at.table + 1) (tables_in k (ds ++ s ∷ [])) else tables_in k (ds ++ s ∷ [])) ≡ max (if b then max (d.at.table + 1) (tables_in k ds) else tables_in k ds) (tables_in k (s ∷ []))
    by true e = omega (arith, e)
    by false e = e

put_length : (xs : List Table) (t : ℕ) (x : Table) → t ≤ length xs → length (put_at xs t x) ≡ max (length xs) (t + 1)
put_length [] t x h = omega (arith, h)
put_length (y ∷ ys) zero x h = omega arith
put_length (y ∷ ys) (suc t) x h = omega (arith, put_length ys t x (omega (arith, h)))

-- ---- stages with one node more

module _ (ops : List Op) (stages : List Stage) (s : Seat) (l : s.at.stage < length stages) where
  abbrev old : Stage
  old = stage_of stages s.at.stage

  stage_here : stage_of (seated ops s stages) s.at.stage ≡ with_node ops s.node s.at.table old
  stage_here = get_or-set_same stages s.at.stage (with_node ops s.node s.at.table old) no_tables l

  stage_other : (k : ℕ) → nat_eq s.at.stage k ≡ false → stage_of (seated ops s stages) k ≡ stage_of stages k
  stage_other k e = get_or-set_other stages s.at.stage k (with_node ops s.node s.at.table old) no_tables (λ x. true≢false (sym (eq-eqb s.at.stage k (sym x)) ∙ e))

  module _ (r : s.at.table ≤ length old.tables) where
    table_here : table_of (stage_of (seated ops s stages) s.at.stage) s.at.table ≡ table (with_work ops (rows_at old s.at.table) s.node)
    table_here = ap (λ (g : Stage). table_of g s.at.table) stage_here ∙ put_same old.tables s.at.table (table (with_work ops (rows_at old s.at.table) s.node)) r

    table_beside : (t : ℕ) → nat_eq s.at.table t ≡ false → table_of (stage_of (seated ops s stages) s.at.stage) t ≡ table_of old t
    table_beside t e = ap (λ (g : Stage). table_of g t) stage_here
        ∙ put_other old.tables s.at.table t (table (with_work ops (rows_at old s.at.table) s.node)) r (λ x. true≢false (sym (eq-eqb s.at.table t (sym x)) ∙ e))

    length_here : length (stage_of (seated ops s stages) s.at.stage).tables ≡ max (length old.tables) (s.at.table + 1)
    length_here = ap (λ (g : Stage). length g.tables) stage_here ∙ put_length old.tables s.at.table (table (with_work ops (rows_at old s.at.table) s.node)) r

-- ---- facts once some nodes have their places

pub record Kept (ops : List Op) (limits : Limits) (done : List Seat) : Type 0 where
  pub tables_are : (k t : ℕ) → table_of (stage_of (laid ops limits done) k) t ≡ table_at ops done k t
  pub long : (k : ℕ) → length (stage_of (laid ops limits done) k).tables ≡ tables_in k done
  pub few : (k t : ℕ) → rows_are_few ops limits done k t ≡ true
  pub counts : (k : ℕ) → (stage_of (laid ops limits done) k).arrays ≡ arrays_at k done
  pub crowd : (k : ℕ) → arrays_at k done ≤ limits.arrays

module _ (ops : List Op) (limits : Limits) (done : List Seat) (s : Seat) (later : List Work) (a : Admissible ops limits done s.node later s.at) (h : Kept ops limits done) where
  abbrev stages : List Stage
  stages = laid ops limits done

  below : s.at.stage < length stages
  below = omega (arith, laid_length ops limits done, a.room.below)

  at : (k t : ℕ) (x y : Bool) → nat_eq s.at.stage k ≡ x → nat_eq s.at.table t ≡ y →
      (table_of (stage_of (seated ops s stages) k) t ≡ table_at ops (done ++ s ∷ []) k t) × (rows_are_few ops limits (done ++ s ∷ []) k t ≡ true)
  at k t true true ex ey =
      let place : s.at.stage ≡ k = eqb-true s.at.stage k ex in
      let column : s.at.table ≡ t = eqb-true s.at.table t ey in
      let ns : nodes_at k t (done ++ s ∷ []) ≡ nodes_at k t done ++ s.node ∷ [] = nodes_push k t done s true (ap₂ (λ (x y : Bool). x && y) ex ey) in
      let was : rows_at (stage_of stages s.at.stage) s.at.table ≡ grown ops [] (nodes_at k t done) = ap₂ (λ (k t : ℕ). rows_at (stage_of stages k) t) place column ∙ ap (λ (x : Table). x.rows) (h.tables_are k t) in
      let fits : takes ops limits.rows (rows_at (stage_of stages s.at.stage) s.at.table) s.node ≡ true =
      le-leb _ _ a.room.fits.table.rows in (
        ap₂ (λ (k t : ℕ). table_of (stage_of (seated ops s stages) k) t) (sym place) (sym column) ∙ table_here ops stages s below a.room.fits.table.next ∙ ap (λ x. table (with_work ops x s.node)) was
            ∙ sym (ap table (grown_push ops [] (nodes_at k t done) s.node)) ∙ sym (ap (λ ns. table (grown ops [] ns)) ns),
        ap (few_rows ops limits.rows []) ns ∙ few_push ops limits.rows [] (nodes_at k t done) s.node (h.few k t) (ap (λ x. takes ops limits.rows x s.node) (sym was) ∙ fits),
      )
  at k t true false ex ey =
      let place : s.at.stage ≡ k = eqb-true s.at.stage k ex in
      let ns : nodes_at k t (done ++ s ∷ []) ≡ nodes_at k t done ++ [] = nodes_push k t done s false (ap₂ (λ (x y : Bool). x && y) ex ey) in
      let same = ns ∙ append-nil (nodes_at k t done) in (
        ap (λ k. table_of (stage_of (seated ops s stages) k) t) (sym place) ∙ table_beside ops stages s below a.room.fits.table.next t ey ∙ ap (λ k. table_of (stage_of stages k) t) place ∙ h.tables_are k t
            ∙ sym (ap (λ ns. table (grown ops [] ns)) same),
        ap (few_rows ops limits.rows []) same ∙ h.few k t,
      )
  at k t false y ex ey =
      let ns : nodes_at k t (done ++ s ∷ []) ≡ nodes_at k t done ++ [] = nodes_push k t done s false (ap (λ x. x && nat_eq s.at.table t) ex) in
      let same = ns ∙ append-nil (nodes_at k t done) in (
        ap (λ (g : Stage). table_of g t) (stage_other ops stages s below k ex) ∙ h.tables_are k t ∙ sym (ap (λ ns. table (grown ops [] ns)) same),
        ap (few_rows ops limits.rows []) same ∙ h.few k t,
      )

  lengthened : (k : ℕ) (x : Bool) → nat_eq s.at.stage k ≡ x → length (stage_of (seated ops s stages) k).tables ≡ tables_in k (done ++ s ∷ [])
  lengthened k true ex =
      let place : s.at.stage ≡ k = eqb-true s.at.stage k ex in
      let now : tables_in k (done ++ s ∷ []) ≡ max (tables_in k done) (max (s.at.table + 1) 0) = tables_push k done s ∙ ap (λ b. max (tables_in k done) (if b then max (s.at.table + 1) 0 else 0)) ex in
      let was : length (stage_of stages s.at.stage).tables ≡ tables_in k done = ap (λ k. length (stage_of stages k).tables) place ∙ h.long k in
      let filled : length (stage_of (seated ops s stages) k).tables ≡ max (length (stage_of stages s.at.stage).tables) (s.at.table + 1) =
      ap (λ k. length (stage_of (seated ops s stages) k).tables) (sym place) ∙ length_here ops stages s below a.room.fits.table.next in
      omega (arith, now, was, filled)
  lengthened k false ex =
      let now : tables_in k (done ++ s ∷ []) ≡ max (tables_in k done) 0 = tables_push k done s ∙ ap (λ b. max (tables_in k done) (if b then max (s.at.table + 1) 0 else 0)) ex in
      let same : length (stage_of (seated ops s stages) k).tables ≡ tables_in k done = ap (λ (g : Stage). length g.tables) (stage_other ops stages s below k ex) ∙ h.long k in
      omega (arith, now, same)

  crowded : (k : ℕ) (x y : Bool) → nat_eq s.at.stage k ≡ x → s.node.is_array ≡ y →
      ((stage_of (seated ops s stages) k).arrays ≡ arrays_at k (done ++ s ∷ [])) × (arrays_at k (done ++ s ∷ []) ≤ limits.arrays)
  crowded k true true ex ey =
      let place : s.at.stage ≡ k = eqb-true s.at.stage k ex in
      let now : arrays_at k (done ++ s ∷ []) ≡ arrays_at k done + 1 = arrays_push k done s true (ap₂ (λ (x y : Bool). x && y) ex ey) in
      let was : (stage_of stages s.at.stage).arrays ≡ arrays_at k done = ap (λ k. (stage_of stages k).arrays) place ∙ h.counts k in
      let room : (stage_of stages s.at.stage).arrays < limits.arrays = a.room.fits.arrays ey in (
        ap (λ k. (stage_of (seated ops s stages) k).arrays) (sym place) ∙ ap (λ (g : Stage). g.arrays) (stage_here ops stages s below) ∙ ap (λ b. if b then (stage_of stages s.at.stage).arrays + 1 else (stage_of stages s.at.stage).arrays) ey
            ∙ ap (λ n. n + 1) was ∙ sym now,
        omega (arith, now, was, room),
      )
  crowded k true false ex ey =
      let place : s.at.stage ≡ k = eqb-true s.at.stage k ex in
      let now : arrays_at k (done ++ s ∷ []) ≡ arrays_at k done = arrays_push k done s false (ap₂ (λ (x y : Bool). x && y) ex ey) in
      let was : (stage_of stages s.at.stage).arrays ≡ arrays_at k done = ap (λ k. (stage_of stages k).arrays) place ∙ h.counts k in (
        ap (λ k. (stage_of (seated ops s stages) k).arrays) (sym place) ∙ ap (λ (g : Stage). g.arrays) (stage_here ops stages s below) ∙ ap (λ b. if b then (stage_of stages s.at.stage).arrays + 1 else (stage_of stages s.at.stage).arrays) ey
            ∙ was ∙ sym now,
        omega (arith, now, h.crowd k),
      )
  crowded k false y ex ey =
      let now : arrays_at k (done ++ s ∷ []) ≡ arrays_at k done = arrays_push k done s false (ap (λ x. x && s.node.is_array) ex) in (
        ap (λ (g : Stage). g.arrays) (stage_other ops stages s below k ex) ∙ h.counts k ∙ sym now,
        omega (arith, now, h.crowd k),
      )

  kept_next : Kept ops limits (done ++ s ∷ [])
  kept_next =
      let sat : laid ops limits (done ++ s ∷ []) ≡ seated ops s stages = filled_push ops (replicate limits.stages no_tables) done s in
      record {
        tables_are = λ k t. ap (λ (g : List Stage). table_of (stage_of g k) t) sat ∙ (at k t (nat_eq s.at.stage k) (nat_eq s.at.table t) refl refl).0;
        long = λ k. ap (λ (g : List Stage). length (stage_of g k).tables) sat ∙ lengthened k (nat_eq s.at.stage k) refl;
        few = λ k t. (at k t (nat_eq s.at.stage k) (nat_eq s.at.table t) refl refl).1;
        counts = λ k. ap (λ (g : List Stage). (stage_of g k).arrays) sat ∙ (crowded k (nat_eq s.at.stage k) s.node.is_array refl refl).0;
        crowd = λ k. (crowded k (nat_eq s.at.stage k) s.node.is_array refl refl).1;
      }

-- ---- a first fit

all_kept : (ops : List Op) (limits : Limits) (done : List Seat) (ns : List Work) (ps : List Pair) → IsFirstFit ops limits done ns ps → Kept ops limits done → Kept ops limits (done ++ seats ns ps)
all_kept ops limits done [] [] f h = subst (Kept ops limits) (sym (append-nil done)) h
all_kept ops limits done [] (p ∷ ps) f h = absurd f
all_kept ops limits done (n ∷ ns) [] f h = absurd f
all_kept ops limits done (n ∷ ns) (p ∷ ps) f h =
    let s : Seat = record { node = n; at = p } in
    subst (Kept ops limits) (append_assoc done (s ∷ []) (seats ns ps)) (all_kept ops limits (done ++ s ∷ []) ns ps f.1 (kept_next ops limits done s ns f.0.holds h))

all_there : (ops : List Op) (limits : Limits) (done : List Seat) (ns : List Work) (ps : List Pair) → IsFirstFit ops limits done ns ps → AllByRecursion (λ s. IsThere limits s.at) (seats ns ps)
all_there ops limits done [] [] f = tt
all_there ops limits done [] (p ∷ ps) f = absurd f
all_there ops limits done (n ∷ ns) [] f = absurd f
all_there ops limits done (n ∷ ns) (p ∷ ps) f =
    (record { stage = f.0.holds.room.below; table = f.0.holds.room.fits.table.below }, all_there ops limits (done ++ record { node = n; at = p } ∷ []) ns ps f.1)

each_over : {A : Type 0} (P : A → Type 0) (xs : List A) → ((x : A) → In x xs → P x) → AllByRecursion P xs
each_over P [] h = tt
each_over P (x ∷ xs) h = (h x (inl refl), each_over P xs (λ y i. h y (inr i)))

pub fit_kept : (ops : List Op) (limits : Limits) (ps : List Pair) → IsFirstFit ops limits [] (works ops) ps → Kept ops limits (seats (works ops) ps)
fit_kept ops limits ps f = all_kept ops limits [] (works ops) ps f (record {
  tables_are = λ k t. ap (λ (g : Stage). table_of g t) (none_yet limits.stages k);
  long = λ k. ap (λ (g : Stage). length g.tables) (none_yet limits.stages k);
  few = λ k t. refl;
  counts = λ k. ap (λ (g : Stage). g.arrays) (none_yet limits.stages k);
  crowd = λ k. omega arith;
})

pub first_fits_keep_rules : (code : CodeParts) (limits : Limits) (ps : List Pair) → IsFirstFit code.ops limits [] (works code.ops) ps → KeepsRules code.ops limits (seats (works code.ops) ps)
first_fits_keep_rules code limits ps f =
    let ss : List Seat = seats (works code.ops) ps in
    let kept : Kept code.ops limits ss = fit_kept code.ops limits ps f in
    record {
      there = all_there code.ops limits [] (works code.ops) ps f;
      order = each_over (λ (s : Seat). Behind ss s.node s.at.stage) ss (λ r i. each_over (λ (w : Seat). feeds w.node r.node ≡ true → w.at.stage < r.at.stage) ss (λ w j e. in_order code.ops limits [] (works code.ops) ps f r w i j e));
      rows = kept.few;
      arrays = kept.crowd;
    }

-- If each node has room at its level, first fit places it in the stage of this level, so that no node is stuck.
use Rattle.std.proofs.Common.{◌≡◌, ◌≢◌, ◌∙◌, ◌+◌, ◌<◌, ◌≤◌, ◌⊎◌, inl, inr, ℕ, zero, suc, max, List, [], ◌∷◌, ◌++◌, Bool, true, false, not, ◌&&◌, if◌then◌else◌, length, nat_eq, nat_le, nat_lt, replicate, slice_index_or, slice_set, ap, arith, refl, subst, sym}
use Rattle.std.proofs.lemmas.Bool.{and_parts, eq-eqb, leb-true, ltb-true, not-true}
use Rattle.lucid_code.specs.declared.op.Op.{Op}
use Rattle.lucid_conf.specs.declared.limits.Limits.{Limits}
use Rattle.lucid_layout.specs.declared.error.FitError.{FitError}
use Rattle.lucid_layout.specs.declared.error.FitError.TheVariants as cause
use Rattle.lucid_layout.specs.Fit.{Admissible, IsStuck, Least}
use Rattle.lucid_layout.specs.Layout.{IsLayout, IsRefused}
use Rattle.lucid_layout_laws.specs.Laws.{LayoutsAreThere}
use Rattle.lucid_merge.specs.Product.{product}
use Rattle.lucid_stages.specs.declared.node.Work.{Work}
use Rattle.lucid_stages.specs.declared.stage.Pair.{Pair}
use Rattle.lucid_stages.specs.declared.stage.Seat.{Seat}
use Rattle.lucid_stages.specs.declared.stage.Stage.{Stage}
use Rattle.lucid_stages.specs.Marks.{Behind, fed_by, feeds}
use Rattle.lucid_stages.specs.NodeTables.{merged, tables_of}
use Rattle.lucid_stages.specs.NodeWorks.{works}
use Rattle.lucid_stages.specs.Stage.{laid, no_table, no_tables, put_at, rows_at, with_node}
use Rattle.lucid_stages.proofs.StageLemmas.{filled_push, none_yet, stage_at}
use Rattle.lucid_tables.specs.declared.table.Table.{Table}
use Rattle.lucid_tables.specs.Placed.{PlacedParts}
use Rattle.lucid_tables.specs.Rows.{table}
use Rattle.lucid_top_laws.specs.Levels.{Leveled, RoomyCodeIsPlaced, all_have_room, arrays_on, has_room, level_of, leveled, nodes_on}

-- ---- nodes at places, and the same at levels

abbrev seat : Work → Pair → Seat
seat n p = record { node = n; at = p }

-- The nodes are the same, each in the stage of its level.
abbrev Same : List Seat → List Leveled → Type 0
Same [] [] = Unit {0}
Same [] (d ∷ ds) = ⊥
Same (s ∷ ss) [] = ⊥
Same (s ∷ ss) (d ∷ ds) = (s.node ≡ d.node) × (s.at.stage ≡ d.level) × Same ss ds

same_push : (ss : List Seat) (ds : List Leveled) (s : Seat) (d : Leveled) → Same ss ds → s.node ≡ d.node → s.at.stage ≡ d.level → Same (ss ++ s ∷ []) (ds ++ d ∷ [])
same_push [] [] s d same node stage = (node, stage, tt)
same_push [] (e ∷ ds) s d same node stage = absurd same
same_push (r ∷ ss) [] s d same node stage = absurd same
same_push (r ∷ ss) (e ∷ ds) s d same node stage = (same.0, same.1, same_push ss ds s d same.2 node stage)

-- Where a node is behind those that write its reads, it is at its level or above, and at its level it is.
level_behind : (ss : List Seat) (ds : List Leveled) (n : Work) (k : ℕ) → Same ss ds → level_of ds n ≤ k → Behind ss n k
level_behind [] [] n k same above = tt
level_behind [] (d ∷ ds) n k same above = absurd same
level_behind (s ∷ ss) [] n k same above = absurd same
level_behind (s ∷ ss) (d ∷ ds) n k same above = (
  λ (fed : feeds s.node n ≡ true).
      let e : feeds d.node n ≡ true = ap (λ (w : Work). feeds w n) (sym same.0) ∙ fed in
      let l : max (d.level + 1) (level_of ds n) ≤ k = subst (λ (b : Bool). max (if b then d.level + 1 else 0) (level_of ds n) ≤ k) e above in
      omega (arith, l, same.1),
  level_behind ss ds n k same.2 (omega (arith, above)),
)

behind_level : (ss : List Seat) (ds : List Leveled) (n : Work) (k : ℕ) → Same ss ds → Behind ss n k → level_of ds n ≤ k
behind_level [] [] n k same behind = omega arith
behind_level [] (d ∷ ds) n k same behind = absurd same
behind_level (s ∷ ss) [] n k same behind = absurd same
behind_level (s ∷ ss) (d ∷ ds) n k same behind = by (feeds d.node n) refl (behind_level ss ds n k same.2 behind.1)
  where
    by : (b : Bool) → feeds d.node n ≡ b → level_of ds n ≤ k → max (if feeds d.node n then d.level + 1 else 0) (level_of ds n) ≤ k
    by true e rest =
        let less = behind.0 (ap (λ (w : Work). feeds w n) same.0 ∙ e) in
        subst (λ (b : Bool). max (if b then d.level + 1 else 0) (level_of ds n) ≤ k) (sym e) (omega (arith, less, rest, same.1))
    by false e rest = subst (λ (b : Bool). max (if b then d.level + 1 else 0) (level_of ds n) ≤ k) (sym e) (omega (arith, rest))

-- ---- counts

nodes_push : (k : ℕ) (ds : List Leveled) (d : Leveled) → nodes_on k (ds ++ d ∷ []) ≡ nodes_on k ds + (if nat_eq d.level k then 1 else 0)
nodes_push k [] d = omega arith
nodes_push k (e ∷ ds) d = let rest = nodes_push k ds d in omega (arith, rest)

arrays_push : (k : ℕ) (ds : List Leveled) (d : Leveled) → arrays_on k (ds ++ d ∷ []) ≡ arrays_on k ds + (if nat_eq d.level k && d.node.is_array then 1 else 0)
arrays_push k [] d = omega arith
arrays_push k (e ∷ ds) d = let rest = arrays_push k ds d in omega (arith, rest)

put_length : (xs : List Table) (t : ℕ) (x : Table) → length (put_at xs t x) ≤ length xs + 1
put_length [] t x = omega arith
put_length (y ∷ ys) zero x = omega arith
put_length (y ∷ ys) (suc t) x = let rest = put_length ys t x in omega (arith, rest)

table_more : (ops : List Op) (n : Work) (t : ℕ) (s : Stage) → length (with_node ops n t s).tables ≤ length s.tables + 1
table_more ops n t s = put_length s.tables t (table (product (rows_at s t) (merged (tables_of ops n))))

with_array : (b : Bool) (old most : ℕ) → old + (if b then 1 else 0) ≤ most → (if b then old + 1 else old) ≤ most
with_array true old most few = omega (arith, few)
with_array false old most few = omega (arith, few)

at_most : (n : ℕ) → n ≤ n
at_most n = omega arith

past_end : (xs : List Table) → slice_index_or xs (length xs) no_table ≡ no_table
past_end [] = refl
past_end (x ∷ xs) = past_end xs

-- A stage once one of them is this.
set_cases : (P : Stage → Type 0) (xs : List Stage) (i k : ℕ) (x : Stage) → P (stage_at xs k) → (i ≡ k → P x) → P (stage_at (slice_set xs i x) k)
set_cases P [] i k x old new = old
set_cases P (y ∷ ys) zero zero x old new = new refl
set_cases P (y ∷ ys) zero (suc k) x old new = old
set_cases P (y ∷ ys) (suc i) zero x old new = old
set_cases P (y ∷ ys) (suc i) (suc k) x old new = set_cases P ys i k x old (λ e. new (ap suc e))

-- ---- the stages hold at most a table for each node of their level

module _ (ops : List Op) (limits : Limits) where
  abbrev at : List Seat → ℕ → Stage
  at done k = stage_at (laid ops limits done) k

record Fits (ops : List Op) (limits : Limits) (done : List Seat) (ds : List Leveled) : Type 0 where
  same : Same done ds
  tables : (k : ℕ) → length (at ops limits done k).tables ≤ nodes_on k ds
  arrays : (k : ℕ) → (at ops limits done k).arrays ≤ arrays_on k ds

module _ (ops : List Op) (limits : Limits) where
  none_fit : Fits ops limits [] []
  none_fit = record {
    same = tt;
    tables = λ k. subst (λ (g : Stage). length g.tables ≤ 0) (sym (none_yet limits.stages k)) (omega arith);
    arrays = λ k. subst (λ (g : Stage). g.arrays ≤ 0) (sym (none_yet limits.stages k)) (omega arith);
  }

  module _ (done : List Seat) (ds : List Leveled) (n : Work) (p : Pair) (fits : Fits ops limits done ds) where
    abbrev more : List Leveled
    more = ds ++ leveled n p.stage ∷ []

    -- A fact of all stages stays if it holds of the stage with one more node.
    pushed : (P : Stage → Type 0) (k : ℕ) → P (at ops limits done k) → (p.stage ≡ k → P (with_node ops n p.table (at ops limits done p.stage))) → P (at ops limits (done ++ seat n p ∷ []) k)
    pushed P k old new =
        subst (λ (xs : List Stage). P (stage_at xs k)) (sym (filled_push ops (replicate limits.stages no_tables) done (seat n p)))
        (set_cases P (laid ops limits done) p.stage k (with_node ops n p.table (at ops limits done p.stage)) old new)

    tables_more : (k : ℕ) → length (at ops limits (done ++ seat n p ∷ []) k).tables ≤ nodes_on k more
    tables_more k =
        let count : nodes_on k more ≡ nodes_on k ds + (if nat_eq p.stage k then 1 else 0) = nodes_push k ds (leveled n p.stage) in
        let before = fits.tables k in
        pushed (λ (g : Stage). length g.tables ≤ nodes_on k more) k (omega (arith, count, before)) (λ here.
        let there = fits.tables p.stage in
        let one : ◌≡◌ {A = ℕ} (if nat_eq p.stage k then 1 else 0) 1 = ap (λ (b : Bool). if b then 1 else 0) (eq-eqb p.stage k here) in
        let level : nodes_on p.stage ds ≡ nodes_on k ds = ap (λ (j : ℕ). nodes_on j ds) here in
        let grown = table_more ops n p.table (at ops limits done p.stage) in
        omega (arith, count, there, one, level, grown))

    arrays_more : (k : ℕ) → (at ops limits (done ++ seat n p ∷ []) k).arrays ≤ arrays_on k more
    arrays_more k =
        let count : arrays_on k more ≡ arrays_on k ds + (if nat_eq p.stage k && n.is_array then 1 else 0) = arrays_push k ds (leveled n p.stage) in
        let before = fits.arrays k in
        pushed (λ (g : Stage). g.arrays ≤ arrays_on k more) k (omega (arith, count, before)) (λ here.
        let there = fits.arrays p.stage in
        let one : ◌≡◌ {A = ℕ} (if nat_eq p.stage k && n.is_array then 1 else 0) (if n.is_array then 1 else 0) = ap (λ (b : Bool). if b && n.is_array then 1 else 0) (eq-eqb p.stage k here) in
        let level : arrays_on p.stage ds ≡ arrays_on k ds = ap (λ (j : ℕ). arrays_on j ds) here in
        with_array n.is_array (at ops limits done p.stage).arrays (arrays_on k more) (omega (arith, count, there, one, level)))

    one_more : Fits ops limits (done ++ seat n p ∷ []) more
    one_more = record { same = same_push done ds (seat n p) (leveled n p.stage) fits.same refl refl; tables = tables_more; arrays = arrays_more }

  -- ---- a place for each node

  module _ (done : List Seat) (ds : List Leveled) (n : Work) (later : List Work) (fits : Fits ops limits done ds) (room : has_room ops limits ds n later (level_of ds n) ≡ true) where
    abbrev level : ℕ
    level = level_of ds n

    abbrev own : Pair
    own = record { stage = level; table = length (at ops limits done level).tables }

    -- The conditions of room, each with those behind it.
    abbrev few_arrays : Bool
    few_arrays = if n.is_array then nat_lt (arrays_on level ds) limits.arrays else true

    abbrev few_nodes : Bool
    few_nodes = nat_lt (nodes_on level ds) limits.tables && few_arrays

    abbrev few_rows : Bool
    few_rows = nat_le (length (product [] (merged (tables_of ops n)))) limits.rows && few_nodes

    abbrev few_stages : Bool
    few_stages = nat_lt level limits.stages && few_rows

    may : Admissible ops limits done n later own
    may =
        let a = and_parts (not (fed_by (n ∷ later) n)) few_stages room in
        let b = and_parts (nat_lt level limits.stages) few_rows a.1 in
        let c = and_parts (nat_le (length (product [] (merged (tables_of ops n)))) limits.rows) few_nodes b.1 in
        let d = and_parts (nat_lt (nodes_on level ds) limits.tables) few_arrays c.1 in
        let few = ltb-true (nodes_on level ds) limits.tables d.0 in
        let there = fits.tables level in
        let below : length (at ops limits done level).tables < limits.tables = omega (arith, few, there) in
        record {
          written = not-true (fed_by (n ∷ later) n) a.0;
          room = record {
            below = ltb-true level limits.stages b.0;
            behind = level_behind done ds n level fits.same (at_most level);
            fits = record {
              table = record {
                next = at_most (length (at ops limits done level).tables);
                below = below;
                rows = subst (λ (t : Table). length (product t.rows (merged (tables_of ops n))) ≤ limits.rows) (sym (past_end (at ops limits done level).tables))
                    (leb-true (length (product [] (merged (tables_of ops n)))) limits.rows c.0);
              };
              arrays = λ (is : n.is_array ≡ true). few_by (subst (λ (b : Bool). (if b then nat_lt (arrays_on level ds) limits.arrays else true) ≡ true) is d.1);
            };
          };
        }
      where
        few_by : nat_lt (arrays_on level ds) limits.arrays ≡ true → (at ops limits done level).arrays < limits.arrays
        few_by l = let few = ltb-true (arrays_on level ds) limits.arrays l in let there = fits.arrays level in omega (arith, few, there)

    -- Its least place is in the stage of its level.
    at_level : (p : Pair) → Least (Admissible ops limits done n later) p → p.stage ≡ level
    at_level p least = by (least.least own may)
      where
        by : (p.stage < level) ⊎ ((p.stage ≡ level) × (p.table ≤ length (at ops limits done level).tables)) → p.stage ≡ level
        by (inl less) = let high = behind_level done ds n p.stage fits.same least.holds.room.behind in omega (arith, less, high)
        by (inr same) = same.0

  never_stuck : (done : List Seat) (ds : List Leveled) (ns : List Work) (i : ℕ) → Fits ops limits done ds → all_have_room ops limits ds ns ≡ true → IsStuck ops limits done ns i → ⊥
  never_stuck done ds [] i fits room stuck = stuck
  never_stuck done ds (n ∷ ns) zero fits room stuck =
      let parts = and_parts (has_room ops limits ds n ns (level_of ds n)) (all_have_room ops limits (ds ++ leveled n (level_of ds n) ∷ []) ns) room in
      stuck (own done ds n ns fits parts.0) (may done ds n ns fits parts.0)
  never_stuck done ds (n ∷ ns) (suc i) fits room stuck =
      let parts = and_parts (has_room ops limits ds n ns (level_of ds n)) (all_have_room ops limits (ds ++ leveled n (level_of ds n) ∷ []) ns) room in
      let p = stuck.0 in
      let is : p.stage ≡ level_of ds n = at_level done ds n ns fits parts.0 p stuck.1 in
      never_stuck (done ++ seat n p ∷ []) (ds ++ leveled n p.stage ∷ []) ns i (one_more done ds n p fits)
      (subst (λ (k : ℕ). all_have_room ops limits (ds ++ leveled n k ∷ []) ns ≡ true) (sym is) parts.1) stuck.2

-- ---- the layout

pub roomy_is_placed : LayoutsAreThere → RoomyCodeIsPlaced
roomy_is_placed layouts code limits counts room = by (layouts code limits)
  where
    by : ((placed : PlacedParts) × IsLayout code limits placed) ⊎ ((e : FitError) × (e ≢ cause.Memory) × IsRefused code limits e) → (placed : PlacedParts) × IsLayout code limits placed
    by (inl laid) = laid
    by (inr (cause.Ops n, not, is)) = absurd (omega (arith, counts.ops, is.0, is.1))
    by (inr (cause.Fields n, not, is)) = absurd (omega (arith, counts.bits, is.1, is.2))
    by (inr (cause.Arms g, not, is)) = let crowded = is.2 in let few = counts.arms g crowded.there in let many = crowded.crowded in absurd (omega (arith, few, many))
    by (inr (cause.Node i, not, is)) = absurd (never_stuck code.ops limits [] [] (works code.ops) i (none_fit code.ops limits) room is.1)
    by (inr (cause.Memory, not, is)) = absurd (not refl)

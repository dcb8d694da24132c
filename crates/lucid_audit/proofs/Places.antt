-- Nodes at their places: their stages are those of a placed code, and those of a first fit keep the rules.
use Rattle.std.proofs.Common.{◌≡◌, ℕ, ◌<◌, ◌≤◌, List, [], ◌∷◌, ◌++◌, Bool, true, false, if◌then◌else◌, map, length, refl, sym, ap, ap₂, subst, ◌∙◌, ⊎_elim, append-nil, append_assoc, arith}
use Rattle.std.specs.List.{flat_map, range_with_len, AllByRecursion}
use Rattle.std.proofs.lemmas.Bool.{cases_lt}
use Rattle.std.proofs.lemmas.List.{get_or_past}
use Rattle.std.proofs.lemmas.List.FromFn.{length-map-range_with_len, get_or-map-range_with_len}
use Rattle.lucid_code.specs.declared.op.Op.{Op}
use Rattle.lucid_code.specs.Parts.{CodeParts}
use Rattle.lucid_code.specs.Valid.{IsValid}
use Rattle.lucid_tables.specs.declared.table.Row.{Row}
use Rattle.lucid_tables.specs.declared.table.Table.{Table}
use Rattle.lucid_tables.specs.Placed.{IsPlaced}
use Rattle.lucid_tables.specs.Rows.{table}
use Rattle.lucid_merge.specs.Laws.{ProductsAct, ProductsName, GuardsContradict}
use Rattle.lucid_conf.specs.declared.limits.Limits.{Limits}
use Rattle.lucid_conf.specs.Kept.{AreLimits}
use Rattle.lucid_code.specs.declared.node.Node.{Node}
use Rattle.lucid_stages.specs.declared.node.Work.{Work}
use Rattle.lucid_stages.specs.declared.stage.Pair.{Pair}
use Rattle.lucid_stages.specs.declared.stage.Seat.{Seat}
use Rattle.lucid_stages.specs.declared.stage.Stage.{Stage}
use Rattle.lucid_stages.specs.Stage.{seats, is_at, no_table, no_tables}
use Rattle.lucid_stages.specs.Marks.{Behind, feeds}
use Rattle.lucid_stages.specs.NodeTables.{merged, tables_of}
use Rattle.lucid_stages.specs.Placing.{stage_code}
use Rattle.lucid_stages.specs.NodeWorks.{works, work_of}
use Rattle.lucid_stages.proofs.PlacingLemmas.{keeps}
use Rattle.lucid_stages.proofs.NodeTablesLemmas.{Made, made_none, made_product, made_merged}
use Rattle.lucid_stages.proofs.StageLemmas.{group, all_ops, stage_at as stage_of, table_at as table_of, Holds, all_of, seat_node}
use Rattle.lucid_audit.specs.Audit.{IsThere, KeepsRules, pairs_of, nodes_at, with_work, grown, tables_in, table_at, stage_at, stages}
use Rattle.lucid_audit.proofs.Growing.{nodes_here, nodes_there}
use Rattle.lucid_audit.proofs.Widths.{beyond, no_stage}

-- ---- the operations of a table

group_is : (k t : ℕ) (ss : List Seat) → group k t ss ≡ flat_map (λ (n : Work). n.ops) (nodes_at k t ss)
group_is k t [] = refl
group_is k t (s ∷ ss) = by (is_at k t s) refl (group_is k t ss)
  where
    by : (b : Bool) → is_at k t s ≡ b → group k t ss ≡ flat_map (λ (n : Work). n.ops) (nodes_at k t ss) → group k t (s ∷ ss) ≡ flat_map (λ (n : Work). n.ops) (nodes_at k t (s ∷ ss))
    by true e again = ap (λ b. (if b then s.node.ops else []) ++ group k t ss) e ∙ ap (λ l. s.node.ops ++ l) again ∙ sym (ap (flat_map (λ (n : Work). n.ops)) (nodes_here k t s ss e))
    by false e again = ap (λ b. (if b then s.node.ops else []) ++ group k t ss) e ∙ again ∙ sym (ap (flat_map (λ (n : Work). n.ops)) (nodes_there k t s ss e))

made_grown : (acting : ProductsAct) (naming : ProductsName) (ops : List Op) (is : List ℕ) (t : List Row) (ns : List Work) → Made ops is t → Made ops (is ++ flat_map (λ (n : Work). n.ops) ns) (grown ops t ns)
made_grown acting naming ops is t [] m = subst (λ l. Made ops l t) (sym (append-nil is)) m
made_grown acting naming ops is t (n ∷ ns) m =
    subst (λ l. Made ops l (grown ops t (n ∷ ns))) (append_assoc is n.ops (flat_map (λ (n : Work). n.ops) ns))
    (made_grown acting naming ops (is ++ n.ops) (with_work ops t n) ns (made_product acting naming ops is n.ops t (merged (tables_of ops n)) m (made_merged acting naming ops n.ops)))

-- ---- the stages

-- the table at each place, past the ends of the lists too
table_is : (ops : List Op) (limits : Limits) (ss : List Seat) → AllByRecursion (λ s. IsThere limits s.at) ss → (k t : ℕ) → table_of (stage_of (stages ops limits ss) k) t ≡ table_at ops ss k t
table_is ops limits ss a k t = ⊎_elim
    (λ (l : k < limits.stages). ap (λ (s : Stage). table_of s t) (get_or-map-range_with_len (stage_at ops ss) 0 limits.stages k k no_tables l (omega arith)) ∙ within)
    (λ (l : limits.stages ≤ k).
    ap (λ (s : Stage). table_of s t) (get_or_past (stages ops limits ss) k no_tables (omega (arith, l, length-map-range_with_len (stage_at ops ss) 0 limits.stages)))
    ∙ sym (empty (omega (arith, (no_stage limits k ss a l).0))))
    (cases_lt k limits.stages)
  where
    empty : tables_in k ss ≤ t → table_at ops ss k t ≡ no_table
    empty h = ap (λ ns. table (grown ops [] ns)) (beyond k t ss h)

    within : table_of (stage_at ops ss k) t ≡ table_at ops ss k t
    within = ⊎_elim
        (λ (l : t < tables_in k ss). get_or-map-range_with_len (table_at ops ss k) 0 (tables_in k ss) t t no_table l (omega arith))
        (λ (l : tables_in k ss ≤ t). get_or_past (map (table_at ops ss k) (range_with_len 0 (tables_in k ss))) t no_table (omega (arith, l, length-map-range_with_len (table_at ops ss k) 0 (tables_in k ss))) ∙ sym (empty l))
        (cases_lt t (tables_in k ss))

holds : (acting : ProductsAct) (naming : ProductsName) (ops : List Op) (limits : Limits) (ss : List Seat) → AllByRecursion (λ s. IsThere limits s.at) ss → Holds ops ss (stages ops limits ss)
holds acting naming ops limits ss a = record {
  made = λ k t. subst (λ (x : Table). Made ops (group k t ss) x.rows) (sym (table_is ops limits ss a k t))
      (subst (λ l. Made ops l (grown ops [] (nodes_at k t ss))) (sym (group_is k t ss)) (made_grown acting naming ops [] [] (nodes_at k t ss) (made_none ops)));
  keyed = λ k t. subst (λ (x : Table). x ≡ table x.rows) (sym (table_is ops limits ss a k t)) refl;
}

-- ---- the placed code

seats_all : (ns : List Work) (ps : List Pair) → length ps ≡ length ns → all_ops (seats ns ps) ≡ flat_map (λ (n : Work). n.ops) ns
seats_all [] [] e = refl
seats_all [] (p ∷ ps) e = absurd (omega (arith, e))
seats_all (n ∷ ns) [] e = absurd (omega (arith, e))
seats_all (n ∷ ns) (p ∷ ps) e = ap (λ l. n.ops ++ l) (seats_all ns ps (omega (arith, e)))

pub rules_place : (acting : ProductsAct) (naming : ProductsName) (contradicting : GuardsContradict) (code : CodeParts) (limits : Limits) (ps : List Pair) → IsValid code → AreLimits limits → length ps ≡ length (works code.ops) →
    KeepsRules code.ops limits (seats (works code.ops) ps) → IsPlaced code (map (stage_code code.ops) (stages code.ops limits (seats (works code.ops) ps)))
rules_place acting naming contradicting code limits ps valid ranges long rules =
    let ss : List Seat = seats (works code.ops) ps in
    keeps contradicting code ss (stages code.ops limits ss) valid (record {
      some = omega (arith, ranges.stages, length-map-range_with_len (stage_at code.ops ss) 0 limits.stages);
      holds = holds acting naming code.ops limits ss rules.there;
      ops_are = seats_all (works code.ops) ps long;
      nodes_are = seat_node (works code.ops) ps;
      order = λ r w i j e. all_of (λ (s : Seat). feeds s.node r.node ≡ true → s.at.stage < r.at.stage) ss w
          (all_of (λ (s : Seat). Behind ss s.node s.at.stage) ss r rules.order i) j e;
    })

-- ---- lists of nodes at their places

pub seats_are : (ops ops' : List Op) (ns ns' : List Node) (ps ps' : List (ℕ × ℕ)) → ops ≡ ops' → ns ≡ ns' → ps ≡ ps' → seats (map (work_of ops) ns) (pairs_of ps) ≡ seats (map (work_of ops') ns') (pairs_of ps')
seats_are ops ops' ns ns' ps ps' o n p =
    ap₂ (λ (a : List Op) (b : List Node). seats (map (work_of a) b) (pairs_of ps)) o n ∙ ap (λ c. seats (map (work_of ops') ns') (pairs_of c)) p

pub seats_few : (ns : List Work) (ps : List Pair) → length (seats ns ps) ≤ length ns
seats_few ns [] = omega arith
seats_few [] (p ∷ ps) = omega arith
seats_few (n ∷ ns) (p ∷ ps) = omega (arith, seats_few ns ps)

pub each_seat : (P : Work → Type 0) (ns : List Work) (ps : List Pair) → AllByRecursion P ns → AllByRecursion (λ s. P s.node) (seats ns ps)
each_seat P ns [] a = tt
each_seat P [] (p ∷ ps) a = tt
each_seat P (n ∷ ns) (p ∷ ps) a = (a.0, each_seat P ns ps a.1)

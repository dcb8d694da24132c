-- The loop that places nodes: facts after the first of them.
use Rattle.std.proofs.Common.{◌≡◌, ℕ, zero, suc, ◌+◌, ◌<◌, ◌≤◌, List, [], ◌∷◌, ◌++◌, Option, Some, true, false, IfSome, drop, length, nat_lt, replicate, slice_index, slice_index_or, slice_set, refl, sym, ap, subst, ◌∙◌, append-nil, append_assoc, length-append, arith}
use Rattle.std.specs.List.{list_any, AllByRecursion}
use Rattle.std.proofs.lemmas.List.{drop_all}
use Rattle.lucid_code.specs.declared.op.Op.{Op}
use Rattle.lucid_tables.specs.declared.table.Table.{Table}
use Rattle.lucid_conf.specs.declared.limits.Limits.{Limits}
use Rattle.lucid_stages.specs.declared.stage.Seat.{Seat}
use Rattle.lucid_stages.specs.declared.node.Work.{Work}
use Rattle.lucid_stages.specs.declared.stage.Pair.{Pair}
use Rattle.lucid_stages.specs.declared.stage.Stage.{Stage}
use Rattle.lucid_stages.specs.Stage.{seats, laid, seated, rows_at, with_table, no_tables}
use Rattle.lucid_layout.specs.Fit.{StageFits, Admissible, Least, IsFirstFit, IsStuck}
use Rattle.lucid_stages.specs.Marks.{fed_by, raised, lowest, floor, Within, zeros, end_marks}
use Rattle.lucid_stages.specs.NodeTables.{few_on_the_way, merged, tables_at, tables_of}
use Rattle.lucid_layout.specs.Find.{Fits, Takes, TakesNone}
use Rattle.lucid_stages.proofs.NodeTablesLaws.{too_many}
use Rattle.lucid_stages.proofs.StageLemmas.{laid_length, filled_push}
use Rattle.lucid_stages.proofs.MarksLemmas.{head_of, raised_length, length_zeros, Written, behind_to, behind_from, floor_zero, fed_by_marks}

lowest_push : (low : List ℕ) (done : List Seat) (s : Seat) → lowest low (done ++ s ∷ []) ≡ raised (lowest low done) s.node.writes (s.at.stage + 1)
lowest_push low [] s = refl
lowest_push low (d ∷ ds) s = lowest_push (raised low d.node.writes (d.at.stage + 1)) ds s

lowest_length : (low : List ℕ) (done : List Seat) → length (lowest low done) ≡ length low
lowest_length low [] = refl
lowest_length low (s ∷ ss) = lowest_length (raised low s.node.writes (s.at.stage + 1)) ss ∙ raised_length low s.node.writes _

seats_push : (ns : List Work) (ps : List Pair) (i : ℕ) (n : Work) (p : Pair) → i < length ns → n ≡ slice_index_or ns i n → length ps ≡ i → seats ns (ps ++ p ∷ []) ≡ seats ns ps ++ record { node = n; at = p } ∷ []
seats_push [] ps i n p h e l = absurd (omega (arith, h))
seats_push (m ∷ ms) [] zero n p h e l = ap (λ x. record { node = x; at = p } ∷ []) (sym e)
seats_push (m ∷ ms) [] (suc i) n p h e l = absurd (omega (arith, l))
seats_push (m ∷ ms) (q ∷ qs) zero n p h e l = absurd (omega (arith, l))
seats_push (m ∷ ms) (q ∷ qs) (suc i) n p h e l = ap (λ z. record { node = m; at = q } ∷ z) (seats_push ms qs i n p (omega (arith, h)) e (omega (arith, l)))

written_seats : (fields : ℕ) (ns : List Work) (ps : List Pair) → AllByRecursion (λ n. Within fields n.writes) ns → Written fields (seats ns ps)
written_seats fields ns [] a = tt
written_seats fields [] (p ∷ ps) a = tt
written_seats fields (n ∷ ns) (p ∷ ps) a = (a.0, written_seats fields ns ps a.1)

-- a fact of all nodes holds for the node of a turn
pub all_at : (P : Work → Type 0) (i : ℕ) (ns : List Work) (n : Work) → AllByRecursion P ns → i < length ns → n ≡ slice_index_or ns i n → P n
all_at P i [] n a h e = absurd (omega (arith, h))
all_at P zero (m ∷ ms) n a h e = subst P (sym e) a.0
all_at P (suc i) (m ∷ ms) n a h e = all_at P i ms n a.1 (omega (arith, h)) e

-- the running counts at a moment
record Counts (ops : List Op) (limits : Limits) (fields : ℕ) (done : List Seat) (stages : List Stage) (low : List ℕ) : Type 0 where
  pub stages_are : stages ≡ laid ops limits done
  pub low_are : low ≡ lowest (zeros fields) done
  pub written : Written fields done

module _ (ops : List Op) (limits : Limits) (fields : ℕ) (done : List Seat) (stages : List Stage) (low : List ℕ) (n : Work) (later : List Work) (c : Counts ops limits fields done stages low)
    (unwritten : fed_by (n ∷ later) n ≡ false) where
  in_zeros : Written (length (zeros fields)) done
  in_zeros = subst (λ m. Written m done) (sym (length_zeros fields 0)) c.written

  admissible_to : (p : Pair) → Fits limits stages (floor low n.reads) n.is_array (merged (tables_of ops n)) p → Admissible ops limits done n later p
  admissible_to p f = record {
    written = unwritten;
    room = record {
      below = f.below;
      behind = (behind_to (zeros fields) done n p.stage in_zeros (subst (λ l. floor l n.reads ≤ p.stage) c.low_are f.above)).1;
      fits = subst (λ s. StageFits limits (slice_index_or s p.stage no_tables) n.is_array (merged (tables_of ops n)) p.table) c.stages_are f.fits;
    };
  }

  admissible_from : (p : Pair) → Admissible ops limits done n later p → Fits limits stages (floor low n.reads) n.is_array (merged (tables_of ops n)) p
  admissible_from p a = record {
    above = subst (λ l. floor l n.reads ≤ p.stage) (sym c.low_are) (behind_from (zeros fields) done n p.stage in_zeros (floor_zero fields p.stage n.reads) a.room.behind);
    below = a.room.below;
    fits = subst (λ s. StageFits limits (slice_index_or s p.stage no_tables) n.is_array (merged (tables_of ops n)) p.table) (sym c.stages_are) a.room.fits;
  }

  least_to : (p : Pair) → Least (Fits limits stages (floor low n.reads) n.is_array (merged (tables_of ops n))) p → Least (Admissible ops limits done n later) p
  least_to p l = record { holds = admissible_to p l.holds; least = λ q a. l.least q (admissible_from q a) }

-- after the first i nodes
pub record Moment (ops : List Op) (limits : Limits) (fields : ℕ) (nodes : List Work) (i : ℕ) (stages : List Stage) (low : List ℕ) (pairs : List Pair) : Type 0 where
  pub long : length pairs ≡ i
  pub stages_are : stages ≡ laid ops limits (seats nodes pairs)
  pub low_are : low ≡ lowest (zeros fields) (seats nodes pairs)
  pub fit : (ps : List Pair) → IsFirstFit ops limits (seats nodes pairs) (drop i nodes) ps → IsFirstFit ops limits [] nodes (pairs ++ ps)
  pub stuck : (j : ℕ) → IsStuck ops limits (seats nodes pairs) (drop i nodes) j → IsStuck ops limits [] nodes (i + j)

pub start : (ops : List Op) (limits : Limits) (fields : ℕ) (nodes : List Work) (stages : List Stage) (low : List ℕ) (pairs : List Pair) →
    stages ≡ replicate limits.stages no_tables → low ≡ zeros fields → pairs ≡ [] → Moment ops limits fields nodes 0 stages low pairs
start ops limits fields nodes stages low pairs none lowest no_pairs =
    subst (λ ps. Moment ops limits fields nodes 0 stages low ps) (sym no_pairs) (record {
      long = refl;
      stages_are = none;
      low_are = lowest;
      fit = λ ps found. found;
      stuck = λ j found. subst (λ k. IsStuck ops limits [] nodes k) (omega arith) found;
    })

module _ (ops : List Op) (limits : Limits) (fields i : ℕ) (nodes : List Work) (stages : List Stage) (low : List ℕ) (pairs : List Pair) (m : Moment ops limits fields nodes i stages low pairs) where
  pub finish : length nodes ≤ i → IsFirstFit ops limits [] nodes pairs
  finish h = subst (λ ps. IsFirstFit ops limits [] nodes ps) (append-nil pairs) (m.fit [] (subst (λ ns. IsFirstFit ops limits (seats nodes pairs) ns []) (sym (drop_all i nodes h)) tt))

  pub many : length stages ≡ limits.stages
  many = ap length m.stages_are ∙ laid_length ops limits (seats nodes pairs)

  pub low_long : length low ≡ fields
  low_long = ap length m.low_are ∙ lowest_length (zeros fields) (seats nodes pairs) ∙ length_zeros fields 0

  module _ (n : Work) (ends : List ℕ) (all : AllByRecursion (λ n. Within fields n.writes) nodes) (below : i < length nodes) (e : n ≡ slice_index_or nodes i n) (marks : ends ≡ end_marks (zeros fields) 0 nodes) where
    abbrev later : List Work
    later = drop (i + 1) nodes

    split : drop i nodes ≡ n ∷ later
    split = head_of i nodes n below e

    counts : Counts ops limits fields (seats nodes pairs) stages low
    counts = record { stages_are = m.stages_are; low_are = m.low_are; written = written_seats fields nodes pairs all }

    -- the marks mean that none from this node on writes its reads
    fed : list_any (λ k. nat_lt i (slice_index ends k)) n.reads ≡ fed_by (n ∷ later) n
    fed = ap (λ es. list_any (λ k. nat_lt i (slice_index es k)) n.reads) marks ∙ fed_by_marks fields nodes n i all ∙ ap (λ ns. fed_by ns n) split

    pub writes_within : Within (length low) n.writes
    writes_within = subst (λ k. Within k n.writes) (sym low_long) (all_at (λ n. Within fields n.writes) i nodes n all below e)

    pub nowhere : TakesNone ops limits ends low stages n i → IsStuck ops limits [] nodes i
    nowhere none =
        let here : IsStuck ops limits (seats nodes pairs) (n ∷ later) 0 = λ p a. none (fed ∙ a.written) p (admissible_from ops limits fields (seats nodes pairs) stages low n later counts a.written p a) in
        subst (λ k. IsStuck ops limits [] nodes k) (omega arith) (m.stuck 0 (subst (λ ns. IsStuck ops limits (seats nodes pairs) ns 0) (sym split) here))

    pub further : (p : Pair) (made : Table) (stages' : List Stage) (low' : List ℕ) (pairs' : List Pair) → Takes ops limits ends low stages n i p made →
        stages' ≡ slice_set stages p.stage (with_table n.is_array p.table made (slice_index_or stages p.stage no_tables)) → low' ≡ raised low n.writes (p.stage + 1) → pairs' ≡ pairs ++ p ∷ [] →
        Moment ops limits fields nodes (i + 1) stages' low' pairs'
    further p made stages' low' pairs' takes se le pe =
        let s : Seat = record { node = n; at = p } in
        let done = seats nodes pairs in
        let d : seats nodes (pairs ++ p ∷ []) ≡ done ++ s ∷ [] = seats_push nodes pairs i n p below e m.long in
        let best : Least (Admissible ops limits done n later) p = least_to ops limits fields done stages low n later counts (sym fed ∙ takes.written) p takes.least in
        let sat : stages' ≡ seated ops s stages = se ∙ ap (λ x. slice_set stages p.stage (with_table n.is_array p.table x (slice_index_or stages p.stage no_tables))) takes.made_is in
        subst (λ ps. Moment ops limits fields nodes (i + 1) stages' low' ps) (sym pe) (record {
          long = omega (arith, length-append pairs (p ∷ []), m.long);
          stages_are = sat ∙ ap (seated ops s) m.stages_are ∙ sym (filled_push ops (replicate limits.stages no_tables) done s) ∙ ap (laid ops limits) (sym d);
          low_are = le ∙ ap (λ l. raised l n.writes (p.stage + 1)) m.low_are ∙ sym (lowest_push (zeros fields) done s) ∙ ap (lowest (zeros fields)) (sym d);
          fit = λ ps g. subst (λ qs. IsFirstFit ops limits [] nodes qs) (sym (append_assoc pairs (p ∷ []) ps))
              (m.fit (p ∷ ps) (subst (λ ns. IsFirstFit ops limits done ns (p ∷ ps)) (sym split) (best, subst (λ ss. IsFirstFit ops limits ss later ps) d g)));
          stuck = λ j g. subst (λ k. IsStuck ops limits [] nodes k) (omega arith)
              (m.stuck (suc j) (subst (λ ns. IsStuck ops limits done ns (suc j)) (sym split) (p, best, subst (λ ss. IsStuck ops limits ss later j) d g)));
        })

-- a product of the node's first tables is too long for any table
pub too_long : (ops : List Op) (limits : Limits) (ends low : List ℕ) (stages : List Stage) (n : Work) (i : ℕ) (places : List ℕ) →
    places ≡ n.ops → few_on_the_way limits.rows (tables_at ops places) ≡ false → TakesNone ops limits ends low stages n i
too_long ops limits ends low stages n i places is many = λ unwritten p f.
    too_many limits.rows (rows_at (slice_index_or stages p.stage no_tables) p.table) (tables_of ops n) (subst (λ ps. few_on_the_way limits.rows (tables_at ops ps) ≡ false) is many) f.fits.table.rows

-- the result for slices that hold the marks and the stages
pub taken : (ops : List Op) (limits : Limits) (ends es low lo : List ℕ) (stages st : List Stage) (n : Work) (i : ℕ) (o : Option (Pair × Table)) (p : Pair) (made : Table) →
    IfSome o (λ x. Takes ops limits es lo st n i x.0 x.1) → es ≡ ends → lo ≡ low → st ≡ stages → o ≡ Some (p, made) → Takes ops limits ends low stages n i p made
taken ops limits ends es low lo stages st n i o p made h e l s is =
    let found = subst (λ o. IfSome o (λ x. Takes ops limits es lo st n i x.0 x.1)) is h in
    subst (λ s. Takes ops limits ends low s n i p made) s (subst (λ l. Takes ops limits ends l st n i p made) l (subst (λ e. Takes ops limits e lo st n i p made) e found))

pub taken_none : (ops : List Op) (limits : Limits) (ends es low lo : List ℕ) (stages st : List Stage) (n : Work) (i : ℕ) →
    TakesNone ops limits es lo st n i → es ≡ ends → lo ≡ low → st ≡ stages → TakesNone ops limits ends low stages n i
taken_none ops limits ends es low lo stages st n i h e l s =
    subst (λ s. TakesNone ops limits ends low s n i) s (subst (λ l. TakesNone ops limits ends l st n i) l (subst (λ e. TakesNone ops limits e lo st n i) e h))

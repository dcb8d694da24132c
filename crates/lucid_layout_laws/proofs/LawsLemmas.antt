-- First fit always has a result.
use Rattle.lucid_code.specs.Parts.{CodeParts}
use Rattle.lucid_code.specs.declared.op.Op.{Op}
use Rattle.lucid_conf.specs.declared.limits.Limits.{Limits}
use Rattle.lucid_stages.specs.Counts.{CountsFit, bits_of, count_of, most_ops}
use Rattle.lucid_layout.specs.Fit.{Admissible, IsFirstFit, IsStuck, Least, NotBefore}
use Rattle.lucid_stages.specs.Marks.{Behind, fed_by, feeds}
use Rattle.lucid_stages.specs.NodeTables.{merged, tables_of}
use Rattle.lucid_stages.specs.Stage.{laid, no_tables, rows_at}
use Rattle.lucid_layout.specs.Layout.{IsLayout, IsRefused, stages_of}
use Rattle.lucid_stages.specs.NodeWorks.{works}
use Rattle.lucid_layout.specs.declared.error.FitError.TheVariants as cause
use Rattle.lucid_layout.specs.declared.error.FitError.{FitError}
use Rattle.lucid_stages.specs.declared.node.Work.{Work}
use Rattle.lucid_stages.specs.declared.stage.Pair.{Pair}
use Rattle.lucid_stages.specs.declared.stage.Seat.{Seat}
use Rattle.lucid_stages.specs.declared.stage.Stage.{Stage}
use Rattle.lucid_layout_laws.specs.Laws.{LayoutsAreThere}
use Rattle.lucid_merge.specs.Product.{product}
use Rattle.lucid_tables.specs.Placed.{PlacedParts}
use Rattle.std.proofs.Common.{◌≡◌, ℕ, zero, suc, ◌<◌, ◌≤◌, ◌⊎◌, inl, inr, Bool, true, false, List, [], ◌∷◌, refl, subst, arith, ◌≢◌, ◌++◌, length, sym}
use Rattle.std.proofs.lemmas.Bool.{cases_lt, cases_order}
use Rattle.std.specs.Prelude.{slice_index_or}

-- ---- Decisions: a condition holds or does not, and the first number with a condition, or none has it

-- It holds, or it does not.
abbrev pub Decided : Type 0 → Type 0
Decided P = P ⊎ (P → ⊥)

pub less_decided : (m n : ℕ) → Decided (m < n)
less_decided m n = of (cases_lt m n)
  where
    of : (m < n) ⊎ (n ≤ m) → Decided (m < n)
    of (inl less) = inl less
    of (inr more) = inr (λ less. omega (arith, less, more))

pub at_most_decided : (m n : ℕ) → Decided (m ≤ n)
at_most_decided m n = of (cases_lt n m)
  where
    of : (n < m) ⊎ (m ≤ n) → Decided (m ≤ n)
    of (inl more) = inr (λ less. omega (arith, less, more))
    of (inr less) = inl less

pub false_decided : (b : Bool) → Decided (b ≡ false)
false_decided false = inl refl
false_decided true = inr (λ same. absurd (cc))

pub both_decided : {P Q : Type 0} → Decided P → Decided Q → Decided (P × Q)
both_decided (inl p) (inl q) = inl (p, q)
both_decided (inr p) q = inr (λ both. p both.0)
both_decided (inl p) (inr q) = inr (λ both. q both.1)

-- A condition that asks for something only if a test holds.
pub asked_decided : (b : Bool) {P : Type 0} → Decided P → Decided (b ≡ true → P)
asked_decided false p = inl (λ same. absurd (cc))
asked_decided true (inl p) = inl (λ same. p)
asked_decided true (inr p) = inr (λ asks. p (asks refl))

-- ---- the first number

-- Of the numbers below n each has P, or one is the first that has Q.
pub record First (P Q : ℕ → Type 0) (n : ℕ) : Type 0 where
  pub at : ℕ
  pub below : at < n
  pub holds : Q at
  pub before : (j : ℕ) → j < at → P j

pub first : (P Q : ℕ → Type 0) → ((k : ℕ) → P k ⊎ Q k) → (n : ℕ) → ((k : ℕ) → k < n → P k) ⊎ First P Q n
first P Q decide zero = inl (λ k less. absurd (omega (arith, less)))
first P Q decide (suc n) = of (first P Q decide n) (decide n)
  where
    last : P n → ((k : ℕ) → k < n → P k) → (k : ℕ) → k < suc n → (k < n) ⊎ (n ≤ k) → P k
    last p all k less (inl before) = all k before
    last p all k less (inr after) = let same : n ≡ k = omega (arith, less, after) in subst P same p

    of : ((k : ℕ) → k < n → P k) ⊎ First P Q n → P n ⊎ Q n → ((k : ℕ) → k < suc n → P k) ⊎ First P Q (suc n)
    of (inr found) d = let less = found.below in inr (record { at = found.at; below = omega (arith, less); holds = found.holds; before = found.before })
    of (inl all) (inr q) = inr (record { at = n; below = omega arith; holds = q; before = all })
    of (inl all) (inl p) = inl (λ k less. last p all k less (cases_lt k n))

-- ---- First fit finds the least place of each node in turn, or a node has none

-- ---- the place of one node

pub behind_decided : (n : Work) (k : ℕ) (seats : List Seat) → Decided (Behind seats n k)
behind_decided n k [] = inl tt
behind_decided n k (s ∷ seats) = both_decided (asked_decided (feeds s.node n) (less_decided s.at.stage k)) (behind_decided n k seats)

module _ (ops : List Op) (limits : Limits) (done : List Seat) (n : Work) (later : List Work) where
  abbrev stage : ℕ → Stage
  stage k = slice_index_or (laid ops limits done) k no_tables

  -- The conditions of a place, one after another.
  abbrev May : ℕ → ℕ → Type 0
  May k t =
      (fed_by (n ∷ later) n ≡ false) × ((k < limits.stages) × (Behind done n k
      × ((t ≤ length (stage k).tables) × ((t < limits.tables) × ((length (product (rows_at (stage k) t) (merged (tables_of ops n))) ≤ limits.rows)
      × (n.is_array ≡ true → (stage k).arrays < limits.arrays))))))

  may_decided : (k t : ℕ) → Decided (May k t)
  may_decided k t =
      both_decided (false_decided (fed_by (n ∷ later) n))
      (both_decided (less_decided k limits.stages)
      (both_decided (behind_decided n k done)
      (both_decided (at_most_decided t (length (stage k).tables))
      (both_decided (less_decided t limits.tables)
      (both_decided (at_most_decided (length (product (rows_at (stage k) t) (merged (tables_of ops n)))) limits.rows)
      (asked_decided n.is_array (less_decided (stage k).arrays limits.arrays)))))))

  admits : (k t : ℕ) → May k t → Admissible ops limits done n later (record { stage = k; table = t })
  admits k t may =
      let last = may.1.1.1 in
      record {
        written = may.0;
        room = record {
          below = may.1.0;
          behind = may.1.1.0;
          fits = record { table = record { next = last.0; below = last.1.0; rows = last.1.1.0 }; arrays = last.1.1.1 };
        };
      }

  admitted : (p : Pair) → Admissible ops limits done n later p → May p.stage p.table
  admitted p a =
      let fits = a.room.fits in
      (a.written, (a.room.below, (a.room.behind, (fits.table.next, (fits.table.below, (fits.table.rows, fits.arrays))))))

  -- The table of a place is one of the limits.
  in_tables : (k t : ℕ) → May k t → t < limits.tables
  in_tables k t may = may.1.1.1.1.0

  -- No table of the stage admits the node, or one is the first.
  abbrev Full : ℕ → Type 0
  Full k = (t : ℕ) → t < limits.tables → May k t → ⊥

  abbrev Open : ℕ → Type 0
  Open k = First (λ t. May k t → ⊥) (May k) limits.tables

  turned : {P : Type 0} → Decided P → (P → ⊥) ⊎ P
  turned (inl p) = inr p
  turned (inr not) = inl not

  in_stage : (k : ℕ) → Full k ⊎ Open k
  in_stage k = first (λ t. May k t → ⊥) (May k) (λ t. turned (may_decided k t)) limits.tables

  abbrev Best : Type 0
  Best = ((p : Pair) × Least (Admissible ops limits done n later) p) ⊎ ((p : Pair) → Admissible ops limits done n later p → ⊥)

  -- A later place of the same stage, or a place of a later stage.
  later_in_stage : (f : First Full Open limits.stages) (q : Pair) → May q.stage q.table → f.at ≡ q.stage →
      (q.table < f.holds.at) ⊎ (f.holds.at ≤ q.table) → NotBefore q (record { stage = f.at; table = f.holds.at })
  later_in_stage f q may same (inl less) = absurd (f.holds.before q.table less (subst (λ (k : ℕ). May k q.table) (sym same) may))
  later_in_stage f q may same (inr more) = inr (same, more)

  later_place : (f : First Full Open limits.stages) (q : Pair) → May q.stage q.table →
      (f.at ≡ q.stage) ⊎ ((f.at < q.stage) ⊎ (q.stage < f.at)) → NotBefore q (record { stage = f.at; table = f.holds.at })
  later_place f q may (inl same) = later_in_stage f q may same (cases_lt q.table f.holds.at)
  later_place f q may (inr (inl less)) = inl less
  later_place f q may (inr (inr more)) = absurd (f.before q.stage more q.table (in_tables q.stage q.table may) may)

  best_by : ((k : ℕ) → k < limits.stages → Full k) ⊎ First Full Open limits.stages → Best
  best_by (inl none) = inr (λ p a. let may = admitted p a in none p.stage may.1.0 p.table (in_tables p.stage p.table may) may)
  best_by (inr f) = inl (
    record { stage = f.at; table = f.holds.at },
    record {
      holds = admits f.at f.holds.at f.holds.holds;
      least = λ q a. later_place f q (admitted q a) (cases_order f.at q.stage);
    },
  )

  best : Best
  best = best_by (first Full Open in_stage limits.stages)

-- ---- the places of all nodes

abbrev Placed : List Op → Limits → List Seat → List Work → Type 0
Placed ops limits done ns = ((pairs : List Pair) × IsFirstFit ops limits done ns pairs) ⊎ ((i : ℕ) × IsStuck ops limits done ns i)

placed : (ops : List Op) (limits : Limits) (done : List Seat) (ns : List Work) → Placed ops limits done ns
placed ops limits done [] = inl ([], tt)
placed ops limits done (n ∷ ns) = of (best ops limits done n ns) (λ p. placed ops limits (done ++ record { node = n; at = p } ∷ []) ns)
  where
    on : (p : Pair) → Least (Admissible ops limits done n ns) p → Placed ops limits (done ++ record { node = n; at = p } ∷ []) ns → Placed ops limits done (n ∷ ns)
    on p least (inl rest) = inl (p ∷ rest.0, (least, rest.1))
    on p least (inr stuck) = inr (suc stuck.0, (p, least, stuck.1))

    of : Best ops limits done n ns → ((p : Pair) → Placed ops limits (done ++ record { node = n; at = p } ∷ []) ns) → Placed ops limits done (n ∷ ns)
    of (inl found) again = on found.0 found.1 (again found.0)
    of (inr none) again = inr (0, none)

-- ---- counts

module _ (code : CodeParts) (limits : Limits) where
  abbrev Refused : Type 0
  Refused = (e : FitError) × (e ≢ cause.Memory) × IsRefused code limits e

  few_calls : (g : ℕ) → (limits.arms < count_of code g) ⊎ (count_of code g ≤ limits.arms) → (count_of code g ≤ limits.arms) ⊎ (limits.arms < count_of code g)
  few_calls g (inl many) = inr many
  few_calls g (inr few) = inl few

  counted_arms : length code.ops ≤ most_ops → bits_of code ≤ limits.bits →
      ((g : ℕ) → g < length code.arrays → count_of code g ≤ limits.arms) ⊎ First (λ g. count_of code g ≤ limits.arms) (λ g. limits.arms < count_of code g) (length code.arrays) →
      CountsFit code limits ⊎ Refused
  counted_arms few narrow (inl all) = inl (record { ops = few; bits = narrow; arms = all })
  counted_arms few narrow (inr f) = inr (cause.Arms f.at, (λ memory. cc), (few, narrow, record { there = f.below; crowded = f.holds; first = f.before }))

  counted_bits : length code.ops ≤ most_ops → (limits.bits < bits_of code) ⊎ (bits_of code ≤ limits.bits) → CountsFit code limits ⊎ Refused
  counted_bits few (inl wide) = inr (cause.Fields (bits_of code), (λ memory. cc), (few, refl, wide))
  counted_bits few (inr narrow) =
      counted_arms few narrow
      (first (λ g. count_of code g ≤ limits.arms) (λ g. limits.arms < count_of code g) (λ g. few_calls g (cases_lt limits.arms (count_of code g))) (length code.arrays))

  counted_ops : (most_ops < length code.ops) ⊎ (length code.ops ≤ most_ops) → CountsFit code limits ⊎ Refused
  counted_ops (inl many) = inr (cause.Ops (length code.ops), (λ memory. cc), (refl, many))
  counted_ops (inr few) = counted_bits few (cases_lt limits.bits (bits_of code))

  -- ---- the layout

  of_places : CountsFit code limits → Placed code.ops limits [] (works code.ops) → ((p : PlacedParts) × IsLayout code limits p) ⊎ Refused
  of_places counts (inl found) = inl (record { code = code; stages = stages_of code limits found.0 }, record { counts = counts; code_is = refl; fit = (found.0, found.1, refl) })
  of_places counts (inr stuck) = inr (cause.Node stuck.0, (λ memory. cc), (counts, stuck.1))

  of_counts : CountsFit code limits ⊎ Refused → ((p : PlacedParts) × IsLayout code limits p) ⊎ Refused
  of_counts (inl counts) = of_places counts (placed code.ops limits [] (works code.ops))
  of_counts (inr refused) = inr refused

  layout_there : ((p : PlacedParts) × IsLayout code limits p) ⊎ Refused
  layout_there = of_counts (counted_ops (cases_lt most_ops (length code.ops)))

pub layouts_are_there : LayoutsAreThere
layouts_are_there code limits = layout_there code limits

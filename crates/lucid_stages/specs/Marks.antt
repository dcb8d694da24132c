-- The nodes that write the reads of a node, and a number for each field: the position of the nodes that write it.
use Rattle.std.specs.Prelude.{◌≡◌, ℕ, ◌+◌, ◌<◌, max, List, [], ◌∷◌, Bool, true, replicate, slice_index, slice_set}
use Rattle.std.specs.List.{list_any, AllByRecursion}
use Rattle.lucid_tables.specs.Numbers.{is_in}
use Rattle.lucid_stages.specs.declared.node.Work.{Work}
use Rattle.lucid_stages.specs.declared.stage.Seat.{Seat}

-- ---- writers before readers

-- The one writes a field that the other reads.
abbrev pub feeds : Work → Work → Bool
feeds w r = list_any (λ k. is_in k w.writes) r.reads

-- One of these writes a field that the node reads.
abbrev pub fed_by : List Work → Work → Bool
fed_by ws r = list_any (λ w. feeds w r) ws

-- The stage is above that of each node that writes a read of this node.
abbrev pub Behind : List Seat → Work → ℕ → Type 0
Behind done n k = AllByRecursion (λ s. feeds s.node n ≡ true → s.at.stage < k) done

-- ---- marks

-- One above the last stage in which each field is written.
abbrev pub raised : List ℕ → List ℕ → ℕ → List ℕ
raised low [] to = low
raised low (k ∷ ks) to = raised (slice_set low k (max (slice_index low k) to)) ks to

abbrev pub lowest : List ℕ → List Seat → List ℕ
lowest low [] = low
lowest low (s ∷ ss) = lowest (raised low s.node.writes (s.at.stage + 1)) ss

-- The first stage above all that write these fields.
abbrev pub floor : List ℕ → List ℕ → ℕ
floor low [] = 0
floor low (k ∷ ks) = max (slice_index low k) (floor low ks)

abbrev pub Within : ℕ → List ℕ → Type 0
Within count ks = AllByRecursion (λ k. k < count) ks

-- A mark of 0 for each field.
abbrev pub zeros : ℕ → List ℕ
zeros count = replicate count 0

-- Behind the last node that writes each field: the number of the next one. The first of these nodes has this number.
abbrev pub end_marks : List ℕ → ℕ → List Work → List ℕ
end_marks ends at [] = ends
end_marks ends at (n ∷ ns) = end_marks (raised ends n.writes (at + 1)) (at + 1) ns

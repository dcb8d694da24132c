-- Pipes and their rows.
use Rattle.std.proofs.Common.{◌≡◌, ℕ, zero, suc, ◌+◌, ◌-◌, ◌<◌, ◌≤◌, ◌↔◌, List, [], ◌∷◌, Option, None, Some, Result, Ok, Err, if◌then◌else◌, false, is_some, IsSome, IfSome, length, map, replicate, slice_get, refl, sym, ap, ap₂, subst, ◌∙◌, arith}
use Rattle.std.proofs.lemmas.List.{length-replicate}
use Rattle.std.proofs.lemmas.List.Sums.{sum_by-cons}
use Rattle.std.specs.List.{cons_option, count_by, filter_map}
use Rattle.std.specs.Option.{option_and_then, option_map}
use Rattle.lucid_base.specs.Cells.{row_of, zero_cells}
use Rattle.lucid_base.specs.declared.event.Event.{Event}
use Rattle.lucid_net_laws.specs.Rows.{Cells, Rows, cells_of, first_cells, rows_in, step_of, with_rows}
use Rattle.lucid_net_laws.specs.PipeStages.{run_of_packet, run_of_passed}
use Rattle.lucid_pipe.proofs.ByArray.{view_is}
use Rattle.lucid_pipe.proofs.Moves.{zeros_long}
use Rattle.lucid_pipe.specs.Laws.{MovesAsRows}
use Rattle.lucid_pipe.specs.Packets.{Packet, entering, told}
use Rattle.lucid_pipe.specs.Pipe.{PipeParts, comes_out, empty_pipe, entered, gone, packet_at}
use Rattle.lucid_pipe.specs.Rows.{by_array, own, owns, pipe_rows, rows_of}
use Rattle.lucid_pipe.specs.declared.passed.Passed.{Passed}
use Rattle.lucid_pipe.specs.declared.passed.Stuck.TheVariants.{Empty, Ahead}
use Rattle.lucid_pipe.specs.declared.passed.Stuck.{Stuck}
use Rattle.lucid_pipe_laws.proofs.Moves.{goes_none}
use Rattle.lucid_pipe_laws.specs.Moves.{entered_by, goes}
use Rattle.lucid_pipe_laws.specs.Rows.{Row, empty_pipe as no_packets, row}
use Rattle.lucid_tables.specs.Placed.{PlacedParts, stage_of}
use Rattle.lucid_tables.specs.declared.stage.StageCode.{StageCode}
use Rattle.lucid_net.specs.Leaving.{gone_run}
use Rattle.lucid_net.specs.Rows.{IsOf}

abbrev pub slot_at : Rows → ℕ → Option Packet
slot_at rows k = option_and_then (λ r. r.slot) (slice_get rows k)

slots_are : (stages : List StageCode) (slots : List (Option Packet)) (cells : Cells) → length slots ≡ length stages → map (λ (r : Row Cells Packet). r.slot) (rows_of stages slots cells) ≡ slots
slots_are [] [] cells long = refl
slots_are [] (x ∷ slots) cells long = cc
slots_are (s ∷ stages) [] cells long = refl
slots_are (s ∷ stages) (x ∷ slots) cells long = let shorter : length slots ≡ length stages = cc in ap (λ (l : List (Option Packet)). x ∷ l) (slots_are stages slots cells shorter)

slot_is : (stages : List StageCode) (slots : List (Option Packet)) (cells : Cells) (k : ℕ) → length slots ≡ length stages → slot_at (rows_of stages slots cells) k ≡ option_and_then (λ slot. slot) (slice_get slots k)
slot_is [] [] cells k long = refl
slot_is [] (x ∷ slots) cells k long = cc
slot_is (s ∷ stages) [] cells k long = cc
slot_is (s ∷ stages) (x ∷ slots) cells zero long = refl
slot_is (s ∷ stages) (x ∷ slots) cells (suc k) long = let shorter : length slots ≡ length stages = cc in slot_is stages slots cells k shorter

cells_are : (stages : List StageCode) (slots : List (Option Packet)) (cells : Cells) → length slots ≡ length stages → map (λ (r : Row Cells Packet). r.cells) (rows_of stages slots cells) ≡ owns stages cells
cells_are [] [] cells long = refl
cells_are [] (x ∷ slots) cells long = refl
cells_are (s ∷ stages) [] cells long = cc
cells_are (s ∷ stages) (x ∷ slots) cells long = let shorter : length slots ≡ length stages = cc in ap₂ (λ (c : Cells) (cs : List Cells). c ∷ cs) refl (cells_are stages slots cells shorter)

as_many : (stages : List StageCode) (slots : List (Option Packet)) (cells : Cells) → length slots ≡ length stages → length (rows_of stages slots cells) ≡ length stages
as_many [] [] cells long = refl
as_many [] (x ∷ slots) cells long = cc
as_many (s ∷ stages) [] cells long = cc
as_many (s ∷ stages) (x ∷ slots) cells long = let shorter : length slots ≡ length stages = cc in ap suc (as_many stages slots cells shorter)

owns_long : (stages : List StageCode) (cells : Cells) → length (owns stages cells) ≡ length stages
owns_long [] cells = refl
owns_long (s ∷ stages) cells = ap suc (owns_long stages cells)

-- the packet of a row is that of the slot
pub packet_is : (p : PipeParts) (k : ℕ) → length p.slots ≡ length p.placed.stages → slot_at (rows_in p) k ≡ packet_at p k
unfolding rows_in
packet_is p k long = slot_is p.placed.stages p.slots p.cells k long

pub rows_long : (p : PipeParts) → length p.slots ≡ length p.placed.stages → length (rows_in p) ≡ length p.placed.stages
unfolding rows_in
rows_long p long = as_many p.placed.stages p.slots p.cells long

-- there is a row for each stage
pub rows_many : (placed : PlacedParts) (p : PipeParts) (n : ℕ) → p.placed ≡ placed → length p.slots ≡ length p.placed.stages → n ≡ length placed.stages → n ≡ length (rows_in p)
rows_many placed p n same long is = is ∙ ap (λ (x : PlacedParts). length x.stages) (sym same) ∙ sym (rows_long p long)

pub first_long : (placed : PlacedParts) → length (first_cells placed) ≡ length placed.stages
unfolding first_cells
first_long placed = owns_long placed.stages (zero_cells placed.code.arrays)

-- a pipe is that of its rows
pub of_rows : (placed : PlacedParts) (p : PipeParts) → p.placed ≡ placed → length p.slots ≡ length p.placed.stages → length p.cells ≡ length p.placed.code.arrays →
    ((g : ℕ) → stage_of p.placed.stages g ≡ None → row_of p.cells g ≡ row_of (zero_cells p.placed.code.arrays) g) → IsOf placed p
unfolding rows_in cells_of
of_rows placed p same long many idle = subst (λ (x : PlacedParts). p ≡ with_rows x (pipe_rows p)) same
    (ap₂ (λ (c : Cells) (ss : List (Option Packet)). record { placed = p.placed; cells = c; slots = ss }) (sym cells) (sym (slots_are p.placed.stages p.slots p.cells long)))
  where
    cells : by_array p.placed.code.arrays p.placed.stages (map (λ (r : Row Cells Packet). r.cells) (pipe_rows p)) ≡ p.cells
    cells = ap (by_array p.placed.code.arrays p.placed.stages) (cells_are p.placed.stages p.slots p.cells long) ∙ view_is p.placed.code.arrays p.placed.stages p.cells many idle

-- ---- a pipe without packets

none_in : (stages : List StageCode) (cells : Cells) → rows_of stages (replicate (length stages) None) cells ≡ no_packets (owns stages cells)
none_in [] cells = refl
none_in (s ∷ stages) cells = ap (λ (l : Rows). row (own s cells) None ∷ l) (none_in stages cells)

pub rows_empty : (placed : PlacedParts) → rows_in (empty_pipe placed) ≡ no_packets (first_cells placed)
unfolding rows_in first_cells
rows_empty placed = none_in placed.stages (zero_cells placed.code.arrays)

pub empty_of : (placed : PlacedParts) → IsOf placed (empty_pipe placed)
empty_of placed = of_rows placed (empty_pipe placed) refl (length-replicate (length placed.stages) None) (zeros_long placed.code.arrays) (λ g is. refl)

-- where nothing comes into a free slot, nothing changes
pub entered_none : (p : PipeParts) → length p.slots ≡ length p.placed.stages → packet_at p 0 ≡ None → entered_by None (rows_in p) ≡ rows_in p
entered_none p long free = at (rows_in p) (packet_is p 0 long ∙ free)
  where
    at : (rows : Rows) → slot_at rows 0 ≡ None → entered_by None rows ≡ rows
    at [] is = refl
    at (r ∷ rows) is = ap (λ (o : Option Packet). row r.cells o ∷ rows) (sym is)

-- no packet is in a slot that there isn't
pub none_past : (p : PipeParts) (n : ℕ) → n ≡ length (rows_in p) → 0 < length (rows_in p) → length p.slots ≡ length p.placed.stages → packet_at p (n - 1 + 1) ≡ None
none_past p n is some long = at p.slots (n - 1 + 1) (omega (arith, is, some, rows_long p long, long))
  where
    at : (slots : List (Option Packet)) (k : ℕ) → length slots ≤ k → option_and_then (λ slot. slot) (slice_get slots k) ≡ None
    at [] k le = refl
    at (x ∷ slots) zero le = absurd (omega (arith, le))
    at (x ∷ slots) (suc k) le = at slots k (omega (arith, le))

-- ---- moves

told_run : (o : Option Packet) → option_map run_of_passed (option_map told o) ≡ option_map run_of_packet o
told_run None = refl
told_run (Some p) = refl

nothing_ahead : (o : Option Packet) → o ≡ None → IsSome o → ⊥
nothing_ahead None is some = cc
nothing_ahead (Some p) is some = cc

pub none_there : (o : Option Packet) → is_some o ≡ false → o ≡ None
none_there None is = refl
none_there (Some p) is = absurd (cc)

-- why nothing moved: nothing is there
pub stuck_none : {A : Type 0} (old : PipeParts) (k : ℕ) (r : Result A Stuck) (e : Stuck) → r ≡ Err e → packet_at old (k + 1) ≡ None →
    (r ≡ Err Empty ↔ (packet_at old k ≡ None)) → (r ≡ Err Ahead ↔ (IsSome (packet_at old k) × IsSome (packet_at old (k + 1)))) → packet_at old k ≡ None
stuck_none old k r Empty is free empty ahead = empty.0 is
stuck_none old k r Ahead is free empty ahead = absurd (nothing_ahead (packet_at old (k + 1)) free (ahead.0 is).1)

pub stays : (old : PipeParts) (k : ℕ) → length old.slots ≡ length old.placed.stages → packet_at old k ≡ None → packet_at old (k + 1) ≡ None → goes (step_of old.placed) k (rows_in old) ≡ (rows_in old, None)
stays old k long here next = goes_none (step_of old.placed) k (rows_in old) (packet_is old k long ∙ here) (packet_is old (k + 1) long ∙ next)

module _ (placed : PlacedParts) (old : PipeParts) (same : old.placed ≡ placed) (given : MovesAsRows placed) (long : length old.slots ≡ length old.placed.stages) where
  law : MovesAsRows old.placed
  law = subst MovesAsRows (sym same) given

  pub went : {A : Type 0} (new : PipeParts) (out : Option Passed) (k : ℕ) (r : Result A Stuck) (x : A) → r ≡ Ok x → packet_at old (k + 1) ≡ None → (r ≡ Err Empty ↔ (packet_at old k ≡ None)) →
      IfSome (packet_at old k) (λ p. new ≡ gone old k p) → IfSome (packet_at old k) (λ p. out ≡ comes_out old k p) →
      (rows_in new ≡ (goes (step_of old.placed) k (rows_in old)).0) × (gone_run out ≡ option_map run_of_packet (goes (step_of old.placed) k (rows_in old)).1)
  unfolding rows_in step_of
  went {A} new out k r x is free empty goes_on leaves = by (packet_at old k) refl goes_on leaves
    where
      by : (o : Option Packet) → packet_at old k ≡ o → IfSome o (λ p. new ≡ gone old k p) → IfSome o (λ p. out ≡ comes_out old k p) →
          (rows_in new ≡ (goes (step_of old.placed) k (rows_in old)).0) × (gone_run out ≡ option_map run_of_packet (goes (step_of old.placed) k (rows_in old)).1)
      by None e g l = let no : r ≡ Err Empty = empty.1 e in cc
      by (Some p) e g l =
          let m = law.go old k p refl long e free in
          (ap pipe_rows g ∙ m.0, ap (option_map run_of_passed) (l ∙ m.1) ∙ told_run (goes (step_of old.placed) k (pipe_rows old)).1)

  -- the same where nothing leaves
  pub went_within : {A : Type 0} (new : PipeParts) (k : ℕ) (r : Result A Stuck) (x : A) → r ≡ Ok x → packet_at old (k + 1) ≡ None → (r ≡ Err Empty ↔ (packet_at old k ≡ None)) →
      IfSome (packet_at old k) (λ p. (new ≡ gone old k p) × (comes_out old k p ≡ None)) → rows_in new ≡ (goes (step_of old.placed) k (rows_in old)).0
  unfolding rows_in step_of
  went_within {A} new k r x is free empty goes_on = by (packet_at old k) refl goes_on
    where
      by : (o : Option Packet) → packet_at old k ≡ o → IfSome o (λ p. (new ≡ gone old k p) × (comes_out old k p ≡ None)) → rows_in new ≡ (goes (step_of old.placed) k (rows_in old)).0
      by None e g = let no : r ≡ Err Empty = empty.1 e in cc
      by (Some p) e g = ap pipe_rows g.0 ∙ (law.go old k p refl long e free).0

  pub came : (new : PipeParts) (event : Event) (now me : ℕ) → new ≡ entered old event now me → rows_in new ≡ entered_by (Some (entering old.placed.code event now me)) (rows_in old)
  unfolding rows_in
  came new event now me is = ap pipe_rows is ∙ law.enter old event now me refl long

-- ---- how many packets are in a pipe

pub count_slots : (rows : Rows) → length (filter_map (λ slot. slot) (map (λ (r : Row Cells Packet). r.slot) rows)) ≡ count_by (λ (r : Row Cells Packet). is_some r.slot) rows
count_slots [] = refl
count_slots (r ∷ rows) = by r.slot ∙ ap (λ (n : ℕ). (if is_some r.slot then 1 else 0) + n) (count_slots rows) ∙ sym (sum_by-cons (λ (r : Row Cells Packet). if is_some r.slot then 1 else 0) r rows)
  where
    none : (n : ℕ) → n ≡ 0 + n
    none n = omega arith

    next : (n : ℕ) → suc n ≡ 1 + n
    next n = omega arith

    by : (o : Option Packet) → length (cons_option o (filter_map (λ slot. slot) (map (λ (r : Row Cells Packet). r.slot) rows))) ≡ (if is_some o then 1 else 0) + length (filter_map (λ slot. slot) (map (λ (r : Row Cells Packet). r.slot) rows))
    by None = none (length (filter_map (λ slot. slot) (map (λ (r : Row Cells Packet). r.slot) rows)))
    by (Some p) = next (length (filter_map (λ slot. slot) (map (λ (r : Row Cells Packet). r.slot) rows)))

-- A pipe that stands where a drive is settles to the cells after all events that entered.
use Rattle.std.proofs.Common.{◌≡◌, ℕ, zero, suc, ◌+◌, ◌<◌, ◌≤◌, List, [], ◌∷◌, Option, None, Some, true, false, length, is_some, slice_get, refl, sym, ◌∙◌, ap, arith}
use Rattle.std.specs.Option.{option_and_then}
use Rattle.lucid_code.specs.Parts as code
use Rattle.lucid_conf.specs.declared.scene.Scene.{Scene}
use Rattle.lucid_core.specs.Laws.{CellsStayFit}
use Rattle.lucid_core.specs.Parts.{CoreParts}
use Rattle.lucid_core.specs.Step.{after}
use Rattle.lucid_pipe.specs.Packets.{Packet}
use Rattle.lucid_pipe.specs.Pipe.{PipeParts, comes_out, executed, gone, packet_at}
use Rattle.lucid_pipe.specs.Settled.{Settled, settled, settled_from}
use Rattle.lucid_pipe.proofs.Idle.{idle_stays}
use Rattle.lucid_pipe.proofs.Sizes.{made_sizes}
use Rattle.lucid_tables.specs.declared.stage.StageCode.{StageCode}
use Rattle.lucid_drive.specs.Changes.{Moved}
use Rattle.lucid_drive.specs.Drive.{Progress, entries, is_taken, moved}
use Rattle.lucid_drive.specs.Flush.{oldest}
use Rattle.lucid_drive.specs.Standing.{IsAt}
use Rattle.lucid_drive.specs.State.{IsEmpty}
use Rattle.lucid_drive.proofs.Flushing.{moves_less, work}
use Rattle.lucid_drive.proofs.Moving.{moves_at}
use Rattle.lucid_drive.proofs.Standing.{Laws, ended, taken}
use Rattle.lucid_drive.proofs.States.{all_passed, empty_is, free_behind, last_found, oldest_is}
use Rattle.lucid_snap.proofs.Following.{Fixed, with_left_cells}

abbrev Slots : Type 0
Slots = List (Option Packet)

none_settles : (c : code.CodeParts) (stages : List StageCode) (slots : Slots) (cells : List (List ℕ)) → ((k : ℕ) → option_and_then (λ slot. slot) (slice_get slots k) ≡ None) → (settled_from c stages slots cells).cells ≡ cells
none_settles c [] slots cells none = refl
none_settles c (s ∷ stages) [] cells none = refl
none_settles c (s ∷ stages) (Some p ∷ slots) cells none = let no : ◌≡◌ {A = Option Packet} (Some p) None = none 0 in cc
none_settles c (s ∷ stages) (None ∷ slots) cells none = none_settles c stages slots cells (λ k. none (suc k))

some_at : (o : Option Packet) → is_some o ≡ true → (p : Packet) × (o ≡ Some p)
some_at None e = cc
some_at (Some p) e = (p, refl)

none_at : (o : Option Packet) → is_some o ≡ false → o ≡ None
none_at None e = refl
none_at (Some p) e = cc

-- What a move keeps of what every pipe keeps.
laws_after : (pipe : PipeParts) (k : ℕ) (p : Packet) → Fixed pipe.placed → Laws pipe → Laws (gone pipe k p)
laws_after pipe k p fixed laws = record {
  rows = laws.rows;
  pass = laws.pass;
  idle = λ g none. idle_stays pipe.placed.code pipe.placed.stages pipe.cells (executed pipe k p).cells k g p fixed.arrays none refl ∙ laws.idle g none;
  sized = made_sizes pipe.placed.code pipe.placed.stages pipe.cells k p ∙ laws.sized;
}

-- The pipe after the oldest moved settles to the same, and one without packets has those cells.
module _ (parts : CoreParts) (scene : Scene) (p : Progress) (pipe : PipeParts) (is : IsAt parts scene p pipe) (stay : CellsStayFit parts) (fixed : Fixed pipe.placed) (laws : Laws pipe)
    (later_settles : (q : Progress) (later : PipeParts) → work later.slots < work pipe.slots → IsAt parts scene q later → Fixed later.placed → Laws later → (settled later).cells ≡ after parts (entries scene) q.entered) where
  by_oldest : (found : Option ℕ) → oldest p ≡ found → (settled pipe).cells ≡ after parts (entries scene) p.entered
  by_oldest None e =
      let empty : IsEmpty pipe = (empty_is pipe None (sym (oldest_is parts scene p pipe is ∙ e))).0 refl in
      none_settles pipe.placed.code pipe.placed.stages pipe.slots pipe.cells empty
      ∙ ended parts scene p pipe is stay laws (all_passed parts scene p pipe is empty)
  by_oldest (Some k) e =
      let f = last_found (is_taken p) (length p.passed) k e in
      let one = some_at (packet_at pipe k) (taken parts scene p pipe is k ∙ f.here) in
      let next : packet_at pipe (k + 1) ≡ None = none_at (packet_at pipe (k + 1)) (taken parts scene p pipe is (k + 1) ∙ free_behind parts scene p pipe is k e) in
      let did : Moved pipe k one.0 (gone pipe k one.0) = record { here = one.1; next = next; is = refl } in
      ap (λ (s : Settled). s.cells) (fixed.keep.go pipe k one.0 refl is.long one.1 next)
      ∙ with_left_cells (comes_out pipe k one.0) (settled (gone pipe k one.0))
      ∙ later_settles (moved p k) (gone pipe k one.0) (moves_less pipe (gone pipe k one.0) k one.0 did) (moves_at parts scene p pipe is laws k one.0 one.1 next) fixed (laws_after pipe k one.0 fixed laws)

-- By how far the packets have still to go.
settles_by : (n : ℕ) (parts : CoreParts) (scene : Scene) (p : Progress) (pipe : PipeParts) → work pipe.slots ≤ n → IsAt parts scene p pipe → CellsStayFit parts → Fixed pipe.placed → Laws pipe → (settled pipe).cells ≡ after parts (entries scene) p.entered
settles_by zero parts scene p pipe few is stay fixed laws =
    by_oldest parts scene p pipe is stay fixed laws (λ q later less at fixed_then laws_then. absurd (omega (arith, few, less))) (oldest p) refl
settles_by (suc n) parts scene p pipe few is stay fixed laws =
    by_oldest parts scene p pipe is stay fixed laws (λ q later less at fixed_then laws_then. settles_by n parts scene q later (omega (arith, few, less)) at stay fixed_then laws_then) (oldest p) refl

pub settles_to : (parts : CoreParts) (scene : Scene) (p : Progress) (pipe : PipeParts) → IsAt parts scene p pipe → CellsStayFit parts → Fixed pipe.placed → Laws pipe → (settled pipe).cells ≡ after parts (entries scene) p.entered
settles_to parts scene p pipe = settles_by (work pipe.slots) parts scene p pipe (omega arith)

-- A pipe that is driven, over its own slots and cells: a pass is the program's step, and the sights of the pipe.
use Rattle.std.proofs.Common.{◌≡◌, ℕ, zero, suc, ◌<◌, ◌≤◌, List, [], ◌∷◌, Option, None, Some, Bool, true, false, ◌&&◌, IsTrue, get_or, length, map, nat_lt, replicate, slice_get, slice_index, take, is_some, refl, sym, ◌∙◌, ap, ap₂, subst, ⊎_elim, arith}
use Rattle.std.proofs.lemmas.Bool.{and_parts, cases_lt, le-ltb}
use Rattle.std.proofs.lemmas.Bool.Decides.{nat_tests}
use Rattle.std.proofs.lemmas.List.{length-map}
use Rattle.std.proofs.lemmas.List.Quantifiers.{position-Some}
use Rattle.std.proofs.lemmas.Option.{slice_get-get_or}
use Rattle.std.specs.List.{AllByRecursion}
use Rattle.std.specs.Option.{option_and_then}
use Rattle.lucid_base.specs.Cells.{row_of, zero_cells}
use Rattle.lucid_base.specs.declared.array.ArrayDef.{ArrayDef}
use Rattle.lucid_base.specs.declared.event.Event.{Event}
use Rattle.lucid_base.specs.declared.event.Out.{Out}
use Rattle.lucid_code.specs.Run.{Done, Machine, run_code}
use Rattle.lucid_conf.specs.declared.scene.Scene.{Scene}
use Rattle.lucid_core.specs.Fits.{cells_fit}
use Rattle.lucid_core.specs.Laws.{CellsStayFit}
use Rattle.lucid_core.specs.Parts.{CoreParts}
use Rattle.lucid_core.specs.Step as core
use Rattle.lucid_core.specs.Step.{Entry}
use Rattle.lucid_pipe.specs.Laws.{MovesAsRows}
use Rattle.lucid_pipe.specs.Packets.{Packet, left_by, meets, sent_by}
use Rattle.lucid_pipe.specs.Pipe.{PipeParts, packet_at, sizes}
use Rattle.lucid_pipe.specs.Rows.{AreOwned, Cells, by_array, first_cells, own, owns, pipe_rows, rows_of, steps_of}
use Rattle.lucid_pipe_laws.specs.Rows.{Row, Steps, row, whole}
use Rattle.lucid_code.specs.Inputs.{IsInput}
use Rattle.lucid_tables.specs.Numbers.{is_in}
use Rattle.lucid_tables.specs.Placed.{PlacedParts, stage_of}
use Rattle.lucid_tables.specs.Stages.{pass, pass_from}
use Rattle.lucid_tables.specs.declared.stage.StageCode.{StageCode}
use Rattle.lucid_normal_spec.specs.Stands.{Happens, StandsFor}
use Rattle.lucid_drive.specs.Drive.{Drive, Progress, entries, is_taken}
use Rattle.lucid_pipe_laws.specs.Places.{came}
use Rattle.lucid_drive.specs.Driven.{DoSteps}
use Rattle.lucid_pipe_laws.specs.Picture as picture
use Rattle.lucid_drive.specs.Standing.{Fits, IsAt, drive_of, gone_of, packet_of}
use Rattle.lucid_drive.proofs.Driving.{after_is, all_take, length_take, look_is, take_take, taken_is}
use Rattle.lucid_pipe_laws.proofs.LooksLaw.{no_more}
use Rattle.lucid_pipe.proofs.Beside.{same_cells}
use Rattle.lucid_pipe.proofs.ByArray.{owns_at}

-- The invariant of every pipe.
pub record Laws (pipe : PipeParts) : Type 0 where
  pub rows : MovesAsRows pipe.placed
  pub pass : (cells : Cells) (now me : ℕ) (event : Event) → IsInput pipe.placed.code me event → pass pipe.placed.code pipe.placed.stages cells now me event ≡ run_code pipe.placed.code cells now me event
  pub idle : (g : ℕ) → stage_of pipe.placed.stages g ≡ None → row_of pipe.cells g ≡ row_of (zero_cells pipe.placed.code.arrays) g
  pub sized : sizes pipe.cells ≡ sizes (zero_cells pipe.placed.code.arrays)

-- ---- inputs

happens_in : (parts : CoreParts) (e : Entry) → Fits parts e → Happens parts e.me e.event
happens_in parts e fits = record { switch = fits.me; id = fits.id; event_fits = fits.event }

pub is_input_of : (placed : PlacedParts) (parts : CoreParts) (e : Entry) → StandsFor placed.code parts → Fits parts e → IsInput placed.code e.me e.event
is_input_of placed parts e stands_for fits = stands_for.takes e.me e.event (happens_in parts e fits)

false_true : false ≡ true → ⊥
false_true e = cc

below_true : (a b : ℕ) → nat_lt a b ≡ true → a < b
below_true a b is = grind (arith, nat_tests)

-- ---- a pass is the program's step

fit_long : (arrays : List ArrayDef) (cells : Cells) → Rattle.lucid_base.specs.Cells.rows_fit arrays cells ≡ true → length cells ≡ length arrays
fit_long [] [] is = refl
fit_long [] (r ∷ cells) is = absurd (false_true is)
fit_long (a ∷ arrays) [] is = absurd (false_true is)
fit_long (a ∷ arrays) (r ∷ cells) is = ap suc (fit_long arrays cells (and_parts (Rattle.lucid_base.specs.Cells.row_fits a r) (Rattle.lucid_base.specs.Cells.rows_fit arrays cells) is).1)

pub do_steps : (parts : CoreParts) (pipe : PipeParts) → CellsStayFit parts → Laws pipe → StandsFor pipe.placed.code parts → pipe.placed.code.arrays ≡ parts.arrays →
    DoSteps parts (steps_of pipe.placed.code pipe.placed.stages) (first_cells pipe.placed) (by_array pipe.placed.code.arrays pipe.placed.stages) (packet_of pipe.placed) gone_of (AreOwned pipe.placed parts.arrays) (Fits parts)
unfolding first_cells
do_steps parts pipe stay laws stands_for arrays = record {
  start = laws.rows.view zeros zeros_long (λ g is. refl) ∙ ap zero_cells arrays;
  good = record { all = zeros; fit = subst (λ (a : List ArrayDef). IsTrue (cells_fit parts (zero_cells a))) (sym arrays) stay.zero; parted = refl; long = zeros_long; rest = λ g is. refl };
  pass = passed;
}
  where
    placed : PlacedParts
    placed = pipe.placed

    zeros : Cells
    zeros = zero_cells placed.code.arrays

    zeros_long : length zeros ≡ length placed.code.arrays
    zeros_long = length-map placed.code.arrays (λ (a : ArrayDef). replicate a.size 0)

    passed : (cs : List Cells) (e : Entry) → AreOwned placed parts.arrays cs → Fits parts e →
        (let w = whole (steps_of placed.code placed.stages) cs (packet_of placed e) in let s = core.step parts (by_array placed.code.arrays placed.stages cs) e.now e.me e.event in
        (by_array placed.code.arrays placed.stages w.0 ≡ s.cells) × (gone_of w.1 ≡ record { entry = e; outs = s.outs }) × AreOwned placed parts.arrays w.0)
    passed cs e good fits =
        subst (Goal cs) (sym made) (
          subst (λ (c : Cells). by_array placed.code.arrays placed.stages (owns placed.stages m.cells) ≡ (core.step parts c e.now e.me e.event).cells) (sym now_is) (laws.rows.view m.cells long rest ∙ cells),
          subst (λ (c : Cells). gone_of (left_by m (packet_of placed e)) ≡ record { entry = e; outs = (core.step parts c e.now e.me e.event).outs }) (sym now_is)
              (ap (λ (o : List Out). record { entry = e; outs = o }) outs),
          record { all = m.cells; fit = fit; parted = refl; long = long; rest = rest },
        )
      where
        Goal : List Cells → List Cells × Packet → Type 0
        Goal l w = (let s = core.step parts (by_array placed.code.arrays placed.stages l) e.now e.me e.event in
            (by_array placed.code.arrays placed.stages w.0 ≡ s.cells) × (gone_of w.1 ≡ record { entry = e; outs = s.outs }) × AreOwned placed parts.arrays w.0)

        m : Machine
        m = pass_from placed.code placed.stages (meets good.all (packet_of placed e))

        made : whole (steps_of placed.code placed.stages) cs (packet_of placed e) ≡ (owns placed.stages m.cells, left_by m (packet_of placed e))
        made = ap (λ (l : List Cells). whole (steps_of placed.code placed.stages) l (packet_of placed e)) good.parted ∙ laws.rows.through good.all (packet_of placed e)

        now_is : by_array placed.code.arrays placed.stages cs ≡ good.all
        now_is = ap (by_array placed.code.arrays placed.stages) good.parted ∙ laws.rows.view good.all good.long good.rest

        input : IsInput placed.code e.me e.event
        input = is_input_of placed parts e stands_for fits

        happens : Happens parts e.me e.event
        happens = happens_in parts e fits

        cells : m.cells ≡ (core.step parts good.all e.now e.me e.event).cells
        cells = (laws.rows.event good.all e.event e.now e.me).0 ∙ ap (λ (d : Done). d.cells) (laws.pass good.all e.now e.me e.event input) ∙ stands_for.cells good.all e.now e.me e.event happens

        outs : sent_by m.outs ≡ (core.step parts good.all e.now e.me e.event).outs
        outs = (laws.rows.event good.all e.event e.now e.me).1 ∙ ap (λ (d : Done). d.outs) (laws.pass good.all e.now e.me e.event input) ∙ stands_for.outs good.all e.now e.me e.event happens

        fit : IsTrue (cells_fit parts m.cells)
        fit = subst (λ (c : Cells). IsTrue (cells_fit parts c)) (sym cells) (stay.step good.all e.now e.me e.event good.fit)

        long : length m.cells ≡ length placed.code.arrays
        long = fit_long parts.arrays m.cells fit ∙ sym (ap (λ (a : List ArrayDef). length a) arrays)

        rest : (g : ℕ) → stage_of placed.stages g ≡ None → row_of m.cells g ≡ row_of zeros g
        rest g is = laws.rows.idle good.all (packet_of placed e) g is ∙ good.rest g is

-- ---- the sights of the pipe

rows_long : (stages : List StageCode) (slots : List (Option Packet)) (cells : Cells) → length slots ≡ length stages → length (rows_of stages slots cells) ≡ length stages
rows_long [] slots cells long = refl
rows_long (s ∷ stages) [] cells long = cc
rows_long (s ∷ stages) (x ∷ slots) cells long = ap suc (rows_long stages slots cells (omega (arith, long)))

pub row_at : (stages : List StageCode) (slots : List (Option Packet)) (cells : Cells) (k : ℕ) (s : StageCode) (x : Option Packet) (d : Row Cells Packet) → slice_get stages k ≡ Some s → slice_get slots k ≡ Some x →
    (slice_get (rows_of stages slots cells) k ≡ Some (row (own s cells) x)) × (get_or (rows_of stages slots cells) k d ≡ row (own s cells) x)
row_at [] slots cells k s x d is here = cc
row_at (t ∷ stages) [] cells k s x d is here = cc
row_at (t ∷ stages) (y ∷ slots) cells zero s x d is here =
    let same : t ≡ s = cc in
    let slot : y ≡ x = cc in
    (ap₂ (λ (a : StageCode) (o : Option Packet). Some (row (own a cells) o)) same slot, ap₂ (λ (a : StageCode) (o : Option Packet). row (own a cells) o) same slot)
row_at (t ∷ stages) (y ∷ slots) cells (suc k) s x d is here = row_at stages slots cells k s x d is here

module _ (parts : CoreParts) (scene : Scene) (p : Progress) (pipe : PipeParts) (is : IsAt parts scene p pipe) where
  abbrev pub stages : List StageCode
  stages = pipe.placed.stages

  abbrev pub step : Steps Cells Packet
  step = steps_of pipe.placed.code stages

  abbrev pub drive : Drive
  drive = drive_of parts pipe scene

  abbrev pub no_stage : StageCode
  no_stage = record { tables = []; arrays = [] }

  abbrev pub none_row : Row Cells Packet
  none_row = row [] None

  pub rows_many : length (pipe_rows pipe) ≡ length stages
  rows_many = rows_long stages pipe.slots pipe.cells is.long

  pub passed_many : length p.passed ≡ length stages
  passed_many = sym is.driven.long ∙ rows_many

  at : (k : ℕ) → k < length stages → get_or (pipe_rows pipe) k none_row ≡ row (own (get_or stages k no_stage) pipe.cells) (get_or pipe.slots k None)
  at k lt = (row_at stages pipe.slots pipe.cells k (get_or stages k no_stage) (get_or pipe.slots k None) none_row (slice_get-get_or stages k no_stage lt) (slice_get-get_or pipe.slots k None (subst (λ (n : ℕ). k < n) (sym is.long) lt))).1

  -- a packet is in front of a stage exactly if the progress says so
  pub taken : (k : ℕ) → is_some (packet_at pipe k) ≡ is_taken p k
  taken k = ⊎_elim inside past (cases_lt k (length stages))
    where
      inside : k < length stages → is_some (packet_at pipe k) ≡ is_taken p k
      inside lt =
          ap (λ (o : Option (Option Packet)). is_some (option_and_then (λ slot. slot) o)) (slice_get-get_or pipe.slots k None (subst (λ (n : ℕ). k < n) (sym is.long) lt))
          ∙ sym (ap (λ (r : Row Cells Packet). is_some r.slot) (at k lt))
          ∙ taken_is drive step (first_cells pipe.placed) (packet_of pipe.placed) p (pipe_rows pipe) k none_row is.driven (subst (λ (n : ℕ). k < n) (sym rows_many) lt)

      beyond : (slots : List (Option Packet)) (i : ℕ) → length slots ≤ i → slice_get slots i ≡ None
      beyond [] i le = refl
      beyond (x ∷ slots) zero le = absurd (omega (arith, le))
      beyond (x ∷ slots) (suc i) le = beyond slots i (omega (arith, le))

      past : length stages ≤ k → is_some (packet_at pipe k) ≡ is_taken p k
      past le =
          ap (λ (o : Option (Option Packet)). is_some (option_and_then (λ slot. slot) o)) (beyond pipe.slots k (subst (λ (n : ℕ). n ≤ k) (sym is.long) le))
          ∙ sym (ap (λ (b : Bool). b && nat_lt (slice_index p.passed k) (came p.entered p.passed k)) (le-ltb k (length p.passed) (subst (λ (n : ℕ). n ≤ k) (sym passed_many) le)))

  -- no more passed than entered
  pub few_passed : (k : ℕ) → slice_index p.passed k ≤ p.entered
  few_passed k =
      subst (λ (n : ℕ). slice_index p.passed k ≤ n) (length-map (take p.entered (entries scene)) (packet_of pipe.placed) ∙ length_take p.entered (entries scene) is.driven.within)
      (no_more step (first_cells pipe.placed) (map (packet_of pipe.placed) (take p.entered (entries scene))) p.passed (pipe_rows pipe) k is.driven.picture)

  few_came : (k : ℕ) → came p.entered p.passed k ≤ p.entered
  few_came zero = omega arith
  few_came (suc k) = few_passed k

  -- if a packet is there, fewer passed than entered
  pub one_more_came : (k : ℕ) → is_taken p k ≡ true → slice_index p.passed k < p.entered
  one_more_came k is = omega (arith, few_came k, below_true (slice_index p.passed k) (came p.entered p.passed k) (and_parts (nat_lt k (length p.passed)) (nat_lt (slice_index p.passed k) (came p.entered p.passed k)) is).1)

  -- the cells of an array are those after as many whole steps as packets passed its stage
  module _ (stay : CellsStayFit parts) (laws : Laws pipe) where
    so_far : (n : ℕ) → n ≤ p.entered → (core.after parts (entries scene) n ≡ by_array pipe.placed.code.arrays stages (picture.after step (first_cells pipe.placed) (map (packet_of pipe.placed) (take n (entries scene)))))
        × AreOwned pipe.placed parts.arrays (picture.after step (first_cells pipe.placed) (map (packet_of pipe.placed) (take n (entries scene))))
    so_far n le = after_is parts step (first_cells pipe.placed) (by_array pipe.placed.code.arrays stages) (packet_of pipe.placed) gone_of (AreOwned pipe.placed parts.arrays) (Fits parts) (do_steps parts pipe stay laws is.stands_for is.arrays)
        (entries scene) n (subst (AllByRecursion (Fits parts)) (take_take n p.entered (entries scene) le) (all_take (Fits parts) n (take p.entered (entries scene)) is.fit))

    -- cells that are `all` after this many, by stage and by array
    all_is : (n : ℕ) (le : n ≤ p.entered) → core.after parts (entries scene) n ≡ (so_far n le).1.all
    all_is n le = let f = so_far n le in f.0 ∙ ap (by_array pipe.placed.code.arrays stages) f.1.parted ∙ laws.rows.view f.1.all f.1.long f.1.rest

    pub stands_in : (g k : ℕ) → stage_of stages g ≡ Some k → row_of pipe.cells g ≡ row_of (core.after parts (entries scene) (slice_index p.passed k)) g
    stands_in g k found =
        let there = position-Some (λ (s : StageCode). is_in g s.arrays) stages k no_stage found in
        let n : ℕ = slice_index p.passed k in
        let le = few_passed k in
        let f = so_far n le in
        let s = get_or stages k no_stage in
        let here : slice_get stages k ≡ Some s = slice_get-get_or stages k no_stage there.0 in
        sym (laws.rows.look k s pipe.cells g here there.1)
        ∙ ap (λ (r : Row Cells Packet). row_of r.cells g) (sym (at k there.0))
        ∙ ap (λ (c : Cells). row_of c g) (look_is drive step (first_cells pipe.placed) (packet_of pipe.placed) p (pipe_rows pipe) k none_row is.driven (subst (λ (m : ℕ). k < m) (sym rows_many) there.0) le)
        ∙ ap (λ (l : List Cells). row_of (get_or l k []) g) f.1.parted
        ∙ ap (λ (c : Cells). row_of c g) (owns_at stages f.1.all k there.0)
        ∙ laws.rows.look k s f.1.all g here there.1
        ∙ ap (λ (c : Cells). row_of c g) (sym (all_is n le))

    -- when all that entered passed everywhere, all cells are those after them
    pub ended : ((k : ℕ) → k < length stages → slice_index p.passed k ≡ p.entered) → pipe.cells ≡ core.after parts (entries scene) p.entered
    ended all =
        let none : p.entered ≤ p.entered = omega arith in
        let f = so_far p.entered none in
        same_cells pipe.cells (core.after parts (entries scene) p.entered) (as_many ∙ sym (ap (λ (c : Cells). length c) (all_is p.entered none) ∙ f.1.long)) (λ g. by g (stage_of stages g) refl)
      where
        as_many : length pipe.cells ≡ length pipe.placed.code.arrays
        as_many = sym (length-map pipe.cells (λ (r : List ℕ). length r)) ∙ ap (λ (l : List ℕ). length l) laws.sized ∙ length-map (zero_cells pipe.placed.code.arrays) (λ (r : List ℕ). length r) ∙ length-map pipe.placed.code.arrays (λ (a : ArrayDef). replicate a.size 0)

        by : (g : ℕ) (found : Option ℕ) → stage_of stages g ≡ found → row_of pipe.cells g ≡ row_of (core.after parts (entries scene) p.entered) g
        by g None e =
            let none : p.entered ≤ p.entered = omega arith in
            laws.idle g e ∙ sym (ap (λ (c : Cells). row_of c g) (all_is p.entered none) ∙ (so_far p.entered none).1.rest g e)
        by g (Some k) e =
            let there = position-Some (λ (s : StageCode). is_in g s.arrays) stages k no_stage e in
            stands_in g k e ∙ ap (λ (n : ℕ). row_of (core.after parts (entries scene) n) g) (all k there.0)

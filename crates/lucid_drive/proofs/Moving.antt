-- Each move of a pipe is a move of the drive.
use Rattle.std.proofs.Common.{◌≡◌, ℕ, zero, suc, ◌+◌, ◌<◌, ◌≤◌, List, [], ◌∷◌, ◌++◌, Option, None, Some, Bool, if◌then◌else◌, get_or, length, replicate, slice_get, slice_index, slice_set, take, is_some, refl, sym, ◌∙◌, ap, ap₂, subst, add-one, length-set, ⊎_elim, arith}
use Rattle.std.proofs.lemmas.Bool.{cases_lt, lt-ltb}
use Rattle.std.proofs.lemmas.Option.{slice_get-get_or, slice_get_within}
use Rattle.std.specs.List.{AllByRecursion}
use Rattle.std.specs.Option.{option_map}
use Rattle.lucid_base.specs.Cells.{zero_cells}
use Rattle.lucid_base.specs.declared.event.Out.{Out}
use Rattle.lucid_conf.specs.declared.scene.Scene.{Scene}
use Rattle.lucid_core.specs.Laws.{CellsStayFit}
use Rattle.lucid_core.specs.Parts.{CoreParts}
use Rattle.lucid_core.specs.Step as core
use Rattle.lucid_core.specs.Step.{Entry}
use Rattle.lucid_pipe.specs.Packets.{Packet, left_by, told}
use Rattle.lucid_pipe.specs.Pipe.{PipeParts, comes_out, empty_pipe, entered, executed, gone, packet_at}
use Rattle.lucid_pipe.specs.Rows.{AreOwned, Cells, first_cells, own, owns, pipe_rows, rows_of, steps_of}
use Rattle.lucid_pipe_laws.specs.Moves.{entered_by, goes, through}
use Rattle.lucid_pipe_laws.specs.Rows.{Row, Steps, after_first, row}
use Rattle.lucid_pipe.specs.declared.passed.Passed.{Passed}
use Rattle.lucid_pipe.proofs.Settles.{there_free, there_full}
use Rattle.lucid_tables.specs.Placed.{PlacedParts}
use Rattle.lucid_tables.specs.declared.stage.StageCode.{StageCode}
use Rattle.lucid_normal_spec.specs.Stands.{StandsFor}
use Rattle.lucid_drive.specs.Drive.{Progress, begun, entries, moved}
use Rattle.lucid_drive.specs.Driven.{Gone, IsDriven}
use Rattle.lucid_pipe_laws.specs.Picture.{IsPicture}
use Rattle.lucid_drive.specs.Standing.{Fits, IsAt, drive_of, gone_of, packet_of}
use Rattle.lucid_drive.proofs.Driving.{all_at, enters_driven, goes_driven, leaves_driven, left_sends, length_take, take_at, take_more}
use Rattle.lucid_drive.proofs.Standing.{Laws, do_steps, one_more_came, row_at, rows_many, stages, step, taken}

module _ {C P : Type 0} where
  goes_on : (step : Steps C P) (k : ℕ) (rows : List (Row C P)) (a b : C) (x : P) → slice_get rows k ≡ Some (row a (Some x)) → slice_get rows (suc k) ≡ Some (row b None) →
      goes step k rows ≡ (slice_set (slice_set rows k (row (step k a x).0 None)) (suc k) (row b (Some (step k a x).1)), None)
  goes_on step k [] a b x here next = cc
  goes_on step zero (r ∷ []) a b x here next = cc
  goes_on step zero (r ∷ q ∷ rs) a b x here next =
      let same : r ≡ row a (Some x) = cc in
      let other : q ≡ row b None = cc in
      ap₂ (λ (r q : Row C P). (let gone = through (step 0) r.cells r.slot in (row gone.0 None ∷ row q.cells gone.1 ∷ rs, None))) same other
  goes_on step (suc k) (r ∷ rs) a b x here next = ap (λ (later : List (Row C P) × Option P). (r ∷ later.0, later.1)) (goes_on (after_first step) k rs a b x here next)

  goes_last : (step : Steps C P) (k : ℕ) (rows : List (Row C P)) (a : C) (x : P) → slice_get rows k ≡ Some (row a (Some x)) → suc k ≡ length rows →
      goes step k rows ≡ (slice_set rows k (row (step k a x).0 None), Some (step k a x).1)
  goes_last step k [] a x here last = cc
  goes_last step zero (r ∷ []) a x here last =
      let same : r ≡ row a (Some x) = cc in
      ap (λ (r : Row C P). (let gone = through (step 0) r.cells r.slot in (row gone.0 None ∷ [], gone.1))) same
  goes_last step zero (r ∷ q ∷ rs) a x here last = cc
  goes_last step (suc k) (r ∷ rs) a x here last = ap (λ (later : List (Row C P) × Option P). (r ∷ later.0, later.1)) (goes_last (after_first step) k rs a x here (omega (arith, last)))

  entered_set : (rows : List (Row C P)) (came : Option P) (a : C) → slice_get rows 0 ≡ Some (row a None) → entered_by came rows ≡ slice_set rows 0 (row a came)
  entered_set [] came a here = refl
  entered_set (r ∷ rs) came a here = let same : r ≡ row a None = cc in ap (λ (q : Row C P). row q.cells came ∷ rs) same

module _ {A : Type 0} where
  all_push : (P : A → Type 0) (xs : List A) (x : A) → AllByRecursion P xs → P x → AllByRecursion P (xs ++ x ∷ [])
  all_push P [] x all one = (one, tt)
  all_push P (y ∷ ys) x all one = (all.0, all_push P ys x all.1 one)

  get_or_same : (xs : List A) (k : ℕ) (d e : A) → k < length xs → get_or xs k d ≡ get_or xs k e
  get_or_same [] k d e lt = absurd (omega (arith, lt))
  get_or_same (x ∷ xs) zero d e lt = refl
  get_or_same (x ∷ xs) (suc k) d e lt = get_or_same xs k d e (omega (arith, lt))

-- The record of a packet that left.
abbrev pub passed_of : Entry → List Out → Passed
passed_of e outs = record { event = e.event; now = e.now; me = e.me; outs = outs }

none_entry : Entry
none_entry = record { now = 0; me = 0; event = record { id = 0; args = [] } }

module _ (parts : CoreParts) (scene : Scene) (p : Progress) (pipe : PipeParts) (is : IsAt parts scene p pipe) (laws : Laws pipe) where
  abbrev rows : List (Row Cells Packet)
  rows = pipe_rows pipe

  abbrev st : Steps Cells Packet
  st = steps_of pipe.placed.code pipe.placed.stages

  abbrev mine : ℕ → Cells
  mine k = own (get_or pipe.placed.stages k (record { tables = []; arrays = [] })) pipe.cells

  -- the row before a stage
  here_row : (k : ℕ) (x : Option Packet) → slice_get pipe.slots k ≡ Some x → (slice_get rows k ≡ Some (row (mine k) x)) × (get_or rows k (row (mine k) None) ≡ row (mine k) x)
  here_row k x here =
      let below : k < length pipe.placed.stages = subst (λ (n : ℕ). k < n) is.long (slice_get_within pipe.slots k x here) in
      row_at pipe.placed.stages pipe.slots pipe.cells k (get_or pipe.placed.stages k (record { tables = []; arrays = [] })) x (row (mine k) None) (slice_get-get_or pipe.placed.stages k (record { tables = []; arrays = [] }) below) here

  -- A packet that moves is one more that passed its stage.
  pub moves_at : (k : ℕ) (x : Packet) → packet_at pipe k ≡ Some x → packet_at pipe (k + 1) ≡ None → IsAt parts scene (moved p k) (gone pipe k x)
  moves_at k x here next = record {
    stands_for = is.stands_for;
    arrays = is.arrays;
    long = length-set (slice_set pipe.slots k None) (k + 1) _ ∙ length-set pipe.slots k None ∙ is.long;
    fit = is.fit;
    driven = subst (IsDriven (drive_of parts pipe scene) st (first_cells pipe.placed) (packet_of pipe.placed) (moved p k)) (sym (laws.rows.go pipe k x refl is.long here next).0) (⊎_elim on last (cases_lt (k + 1) (length pipe.slots)));
  }
    where
      full : slice_get pipe.slots k ≡ Some (Some x)
      full = there_full pipe.slots k x here

      on : k + 1 < length pipe.slots → IsDriven (drive_of parts pipe scene) st (first_cells pipe.placed) (packet_of pipe.placed) (moved p k) (goes st k rows).0
      on lt =
          let more : k + 1 ≡ suc k = omega arith in
          let free : slice_get pipe.slots (suc k) ≡ Some None = there_free pipe.slots (suc k) (omega (arith, lt)) (subst (λ (i : ℕ). packet_at pipe i ≡ None) more next) in
          subst (λ (l : List (Row Cells Packet) × Option Packet). IsDriven (drive_of parts pipe scene) st (first_cells pipe.placed) (packet_of pipe.placed) (moved p k) l.0)
          (sym (goes_on st k rows (mine k) (mine (suc k)) x (here_row k (Some x) full).0 (here_row (suc k) None free).0))
          (goes_driven (drive_of parts pipe scene) st (first_cells pipe.placed) (packet_of pipe.placed) p rows k (mine k) (mine (suc k)) x is.driven (here_row k (Some x) full).0 (here_row (suc k) None free).0)

      last : length pipe.slots ≤ k + 1 → IsDriven (drive_of parts pipe scene) st (first_cells pipe.placed) (packet_of pipe.placed) (moved p k) (goes st k rows).0
      last le =
          let end : suc k ≡ length rows = omega (arith, le, slice_get_within pipe.slots k (Some x) full, is.long, rows_many parts scene p pipe is) in
          subst (λ (l : List (Row Cells Packet) × Option Packet). IsDriven (drive_of parts pipe scene) st (first_cells pipe.placed) (packet_of pipe.placed) (moved p k) l.0)
          (sym (goes_last st k rows (mine k) x (here_row k (Some x) full).0 end))
          (leaves_driven (drive_of parts pipe scene) st (first_cells pipe.placed) (packet_of pipe.placed) p rows k (mine k) x is.driven (here_row k (Some x) full).0 end)

  -- The packet that comes out is the event that entered as the number that left before, with its outs when all run whole.
  pub record Left (k : ℕ) (x : Packet) : Type 0 where
    pub entry : Entry
    pub is_entry : slice_get (entries scene) (slice_index p.passed k) ≡ Some entry
    pub fits : Fits parts entry
    pub told_is : comes_out pipe k x ≡ Some (passed_of entry (core.outs parts (entries scene) (slice_index p.passed k)))

  pub leaves_at : CellsStayFit parts → (k : ℕ) (x : Packet) → packet_at pipe k ≡ Some x → packet_at pipe (k + 1) ≡ None → length pipe.slots ≤ k + 1 → Left k x
  leaves_at stay k x here next le =
      let es = entries scene in
      let j : ℕ = slice_index p.passed k in
      let full : slice_get pipe.slots k ≡ Some (Some x) = there_full pipe.slots k x here in
      let end : suc k ≡ length rows = omega (arith, le, slice_get_within pipe.slots k (Some x) full, is.long, rows_many parts scene p pipe is) in
      let lt : j < p.entered = one_more_came parts scene p pipe is k (sym (taken parts scene p pipe is k) ∙ ap (λ (o : Option Packet). is_some o) here) in
      let within : j < length es = omega (arith, lt, is.driven.within) in
      let e = get_or es j none_entry in
      let own_is : e ≡ get_or es j e = get_or_same es j none_entry e within in
      let sends = left_sends (drive_of parts pipe scene) st (first_cells pipe.placed) _ (packet_of pipe.placed) gone_of (AreOwned pipe.placed parts.arrays) (Fits parts) (do_steps parts pipe stay laws is.stands_for is.arrays)
      p rows k (mine k) x e is.fit is.driven (here_row k (Some x) full).1 end lt own_is in
      record {
        entry = e;
        is_entry = slice_get-get_or es j none_entry within;
        fits = all_at (Fits parts) (take p.entered es) j e is.fit (subst (λ (n : ℕ). j < n) (sym (length_take p.entered es is.driven.within)) lt) (own_is ∙ sym (take_at es p.entered j e lt));
        told_is = (laws.rows.go pipe k x refl is.long here next).1 ∙ ap (λ (l : List (Row Cells Packet) × Option Packet). option_map told l.1) (goes_last st k rows (mine k) x (here_row k (Some x) full).0 end)
            ∙ ap (λ (g : Gone). Some (passed_of g.entry g.outs)) sends;
      }

  -- A packet that doesn't come out.
  pub stays_in : (k : ℕ) (x : Packet) → k + 1 < length pipe.slots → comes_out pipe k x ≡ None
  stays_in k x lt = ap (λ (b : Bool). if b then None else Some (told (left_by (executed pipe k x) x))) (lt-ltb (k + 1) (length pipe.slots) lt)

  -- An event that enters.
  pub enters_at : (e : Entry) → packet_at pipe 0 ≡ None → 0 < length pipe.slots → p.entered < length (entries scene) → e ≡ get_or (entries scene) p.entered e → Fits parts e →
      IsAt parts scene (record { entered = p.entered + 1; passed = p.passed }) (entered pipe e.event e.now e.me)
  enters_at e free some lt this fits = record {
    stands_for = is.stands_for;
    arrays = is.arrays;
    long = length-set pipe.slots 0 _ ∙ is.long;
    fit = subst (AllByRecursion (Fits parts)) (sym (ap (λ (n : ℕ). take n (entries scene)) (add-one p.entered) ∙ take_more p.entered (entries scene) e lt this)) (all_push (Fits parts) (take p.entered (entries scene)) e is.fit fits);
    driven =
        let first : slice_get rows 0 ≡ Some (row (mine 0) None) = (here_row 0 None (there_free pipe.slots 0 some free)).0 in
        subst (IsDriven (drive_of parts pipe scene) st (first_cells pipe.placed) (packet_of pipe.placed) (record { entered = p.entered + 1; passed = p.passed }))
        (sym (laws.rows.enter pipe e.event e.now e.me refl is.long ∙ entered_set rows (Some (packet_of pipe.placed e)) (mine 0) first))
        (enters_driven (drive_of parts pipe scene) st (first_cells pipe.placed) (packet_of pipe.placed) p rows (mine 0) e is.driven lt this first);
  }

-- ---- the beginning

empty_picture : (step : Steps Cells Packet) (stages : List StageCode) (cells : Cells) → IsPicture step (owns stages cells) [] (replicate (length stages) 0) (rows_of stages (replicate (length stages) None) cells)
empty_picture steps [] cells = tt
empty_picture steps (s ∷ stages) cells = (refl, refl, refl, empty_picture (after_first steps) stages cells)

replicate_long : {A : Type 0} (n : ℕ) (a : A) → length (replicate n a) ≡ n
replicate_long zero a = refl
replicate_long (suc n) a = ap suc (replicate_long n a)

rows_empty : (stages : List StageCode) (cells : Cells) → length (rows_of stages (replicate (length stages) None) cells) ≡ length stages
rows_empty [] cells = refl
rows_empty (s ∷ stages) cells = ap suc (rows_empty stages cells)

pub begins_at : (parts : CoreParts) (scene : Scene) (placed : PlacedParts) → StandsFor placed.code parts → placed.code.arrays ≡ parts.arrays →
    IsAt parts scene (begun (drive_of parts (empty_pipe placed) scene)) (empty_pipe placed)
unfolding first_cells
begins_at parts scene placed stands_for arrays = record {
  stands_for = stands_for;
  arrays = arrays;
  long = replicate_long (length placed.stages) None;
  fit = tt;
  driven = record {
    within = omega arith;
    long = rows_empty placed.stages (zero_cells placed.code.arrays) ∙ sym (replicate_long (length placed.stages) 0);
    picture = empty_picture (steps_of placed.code placed.stages) placed.stages (zero_cells placed.code.arrays);
  };
}

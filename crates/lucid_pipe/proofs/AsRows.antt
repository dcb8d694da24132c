-- A pipe moves as its rows do.
use Rattle.std.proofs.Common.{◌≡◌, ℕ, zero, suc, ◌+◌, ◌<◌, ◌≤◌, List, [], ◌∷◌, Bool, true, false, Option, None, Some, if◌then◌else◌, length, slice_get, slice_set, refl, sym, ap, ap₂, subst, ◌∙◌, ⊎_elim, arith}
use Rattle.std.specs.List.{AllByRecursion}
use Rattle.std.specs.Option.{option_map}
use Rattle.std.proofs.lemmas.Bool.{lt-ltb, le-ltb, cases_lt, true≢false}
use Rattle.std.proofs.lemmas.List.{length-set, set_past}
use Rattle.std.proofs.lemmas.Option.{slice_get_within}
use Rattle.lucid_base.specs.Cells.{row_of}
use Rattle.lucid_base.specs.declared.event.Event.{Event}
use Rattle.lucid_base.specs.declared.event.Out.{Out}
use Rattle.lucid_code.specs.Guards.{Fields}
use Rattle.lucid_code.specs.Parts.{CodeParts}
use Rattle.lucid_code.specs.Run.{Machine}
use Rattle.lucid_tables.specs.declared.stage.StageCode.{StageCode}
use Rattle.lucid_tables.specs.Laws.{KeepsToItsArrays}
use Rattle.lucid_tables.specs.Numbers.{is_in, none_shared}
use Rattle.lucid_tables.specs.Placed.{PlacedParts}
use Rattle.lucid_tables.specs.Stages.{stage, pass_from}
use Rattle.lucid_pipe.specs.Packets.{Packet, meets, left_by, told, entering}
use Rattle.lucid_pipe.specs.Pipe.{PipeParts, packet_at, gone, comes_out, entered, runs_stage}
use Rattle.lucid_pipe.specs.Rows.{chosen, own, owns, steps_of, rows_of, pipe_rows}
use Rattle.lucid_pipe_laws.specs.Moves.{goes, entered_by}
use Rattle.lucid_pipe_laws.specs.Rows.{Row, row, whole}
use Rattle.lucid_pipe.proofs.Beside.{Cells, IsApart, by_test, same_cells, stage_length, pass_length, pass_leaves, first_apart, rest_apart}
use Rattle.lucid_pipe.proofs.Settles.{some_inj, there_full}

-- ---- the cells of a stage's own arrays

chosen_length : (mine : ℕ → Bool) (g : ℕ) (cells : Cells) → length (chosen mine g cells) ≡ length cells
chosen_length mine g [] = refl
chosen_length mine g (r ∷ cells) = ap suc (chosen_length mine (suc g) cells)

none : (b : Bool) → (let no : List ℕ = [] in no ≡ (if b then no else no))
none true = refl
none false = refl

chosen_row : (mine : ℕ → Bool) (from : ℕ) (cells : Cells) (g : ℕ) → row_of (chosen mine from cells) g ≡ (if mine (from + g) then row_of cells g else [])
chosen_row mine from [] g = none (mine (from + g))
chosen_row mine from (r ∷ cells) zero = let here : from ≡ from + 0 = omega arith in ap (λ i. if mine i then r else []) here
chosen_row mine from (r ∷ cells) (suc g) = let on : suc from + g ≡ from + suc g = omega arith in chosen_row mine (suc from) cells g ∙ ap (λ i. if mine i then row_of cells g else []) on

own_row : (s : StageCode) (cells : Cells) (g : ℕ) → row_of (own s cells) g ≡ (if is_in g s.arrays then row_of cells g else [])
own_row s cells g = let here : 0 + g ≡ g = omega arith in chosen_row (λ i. is_in i s.arrays) 0 cells g ∙ ap (λ i. if is_in i s.arrays then row_of cells g else []) here

pub own_there : (s : StageCode) (cells : Cells) (g : ℕ) → is_in g s.arrays ≡ true → row_of (own s cells) g ≡ row_of cells g
own_there s cells g i = own_row s cells g ∙ ap (λ b. if b then row_of cells g else []) i

own_not : (s : StageCode) (cells : Cells) (g : ℕ) → is_in g s.arrays ≡ false → row_of (own s cells) g ≡ []
own_not s cells g o = own_row s cells g ∙ ap (λ b. if b then row_of cells g else []) o

-- cells that are the same in the arrays of a stage
same_own : (s : StageCode) (c d : Cells) → length c ≡ length d → ((g : ℕ) → is_in g s.arrays ≡ true → row_of c g ≡ row_of d g) → own s c ≡ own s d
same_own s c d l h = same_cells (own s c) (own s d) (chosen_length (λ g. is_in g s.arrays) 0 c ∙ l ∙ sym (chosen_length (λ g. is_in g s.arrays) 0 d))
    (λ g. by_test (is_in g s.arrays) (row_of (own s c) g ≡ row_of (own s d) g)
    (λ i. own_there s c g i ∙ h g i ∙ sym (own_there s d g i))
    (λ o. own_not s c g o ∙ sym (own_not s d g o)))

module _ (code : CodeParts) where
  -- a stage on its own cells
  step_own : (s : StageCode) (cells : Cells) (p : Packet) → KeepsToItsArrays code s →
      let m = stage code (meets cells p) s in let n = stage code (meets (own s cells) p) s in
      (n.cells ≡ own s m.cells) × (left_by n p ≡ left_by m p)
  step_own s cells p keeps =
      let m = stage code (meets cells p) s in
      let n = stage code (meets (own s cells) p) s in
      let same = keeps.own (meets cells p) (meets (own s cells) p) (record { fields = refl; outs = refl; cells = λ g i. own_there s cells g i }) in (
        same_cells n.cells (own s m.cells)
            (stage_length code (meets (own s cells) p) s ∙ chosen_length (λ g. is_in g s.arrays) 0 cells ∙ sym (chosen_length (λ g. is_in g s.arrays) 0 m.cells ∙ stage_length code (meets cells p) s))
            (λ g. by_test (is_in g s.arrays) (row_of n.cells g ≡ row_of (own s m.cells) g)
            (λ i. same.cells g i ∙ sym (own_there s m.cells g i))
            (λ o. keeps.others (meets (own s cells) p) g o ∙ own_not s cells g o ∙ sym (own_not s m.cells g o))),
        ap₂ (λ (f : Fields) (outs : List (ℕ × Out)). record p { fields = f; outs = outs }) same.fields same.outs,
      )

  made_length : (stages : List StageCode) (cells : Cells) (k : ℕ) (p : Packet) → length (runs_stage code stages cells k p).cells ≡ length cells
  made_length [] cells k p = refl
  made_length (s ∷ stages) cells zero p = stage_length code (meets cells p) s
  made_length (s ∷ stages) cells (suc k) p = made_length stages cells k p

  -- the others leave the arrays of s
  made_leaves : (s : StageCode) (stages : List StageCode) (cells : Cells) (k : ℕ) (p : Packet) (g : ℕ) → AllByRecursion (KeepsToItsArrays code) stages → AllByRecursion (IsApart s) stages → is_in g s.arrays ≡ true →
      row_of (runs_stage code stages cells k p).cells g ≡ row_of cells g
  made_leaves s [] cells k p g keeps apart i = refl
  made_leaves s (t ∷ stages) cells zero p g keeps apart i = keeps.0.others (meets cells p) g (apart.0 g i)
  made_leaves s (t ∷ stages) cells (suc k) p g keeps apart i = made_leaves s stages cells k p g keeps.1 apart.1 i

  -- stages that are apart from s see no effect of s
  rows_stay : (s : StageCode) (stages : List StageCode) (slots : List (Option Packet)) (cells : Cells) (p : Packet) → KeepsToItsArrays code s → AllByRecursion (IsApart s) stages →
      rows_of stages slots (stage code (meets cells p) s).cells ≡ rows_of stages slots cells
  rows_stay s [] slots cells p keeps apart = refl
  rows_stay s (t ∷ stages) [] cells p keeps apart = refl
  rows_stay s (t ∷ stages) (x ∷ slots) cells p keeps apart =
      ap₂ (λ (c : Cells) (rs : List (Row Cells Packet)). row c x ∷ rs)
      (same_own t (stage code (meets cells p) s).cells cells (stage_length code (meets cells p) s) (λ g i. keeps.others (meets cells p) g
      (by_test (is_in g s.arrays) (is_in g s.arrays ≡ false) (λ e. absurd (true≢false (sym i ∙ apart.0 g e))) (λ e. e))))
      (rows_stay s stages slots cells p keeps apart.1)

  -- a packet that goes on
  rows_on : (stages : List StageCode) (slots : List (Option Packet)) (cells : Cells) (k : ℕ) (p : Packet) →
      AllByRecursion (KeepsToItsArrays code) stages → none_shared (λ (t : StageCode). t.arrays) stages ≡ true → length slots ≡ length stages → slice_get slots k ≡ Some (Some p) → suc k < length slots →
      goes (steps_of code stages) k (rows_of stages slots cells)
      ≡ (rows_of stages (slice_set (slice_set slots k None) (suc k) (Some (left_by (runs_stage code stages cells k p) p))) (runs_stage code stages cells k p).cells, None)
  rows_on [] [] cells k p keeps apart long here l = cc
  rows_on [] (x ∷ slots) cells k p keeps apart long here l = cc
  rows_on (s ∷ stages) [] cells k p keeps apart long here l = cc
  rows_on (s ∷ []) (x ∷ []) cells zero p keeps apart long here l = absurd (omega (arith, l))
  rows_on (s ∷ []) (x ∷ y ∷ slots) cells zero p keeps apart long here l = cc
  rows_on (s ∷ t ∷ stages) (x ∷ []) cells zero p keeps apart long here l = absurd (omega (arith, l))
  rows_on (s ∷ t ∷ stages) (x ∷ y ∷ slots) cells zero p keeps apart long here l =
      let m = stage code (meets cells p) s in
      let n = stage code (meets (own s cells) p) s in
      let o = step_own s cells p keeps.0 in
      ap (λ (a : Option Packet). goes (steps_of code (s ∷ t ∷ stages)) 0 (rows_of (s ∷ t ∷ stages) (a ∷ y ∷ slots) cells)) (some_inj x (Some p) here)
      ∙ ap₂ (λ (c : Cells) (q : Packet). (row c None ∷ row (own t cells) (Some q) ∷ rows_of stages slots cells, None)) o.0 o.1
      ∙ ap (λ (rs : List (Row Cells Packet)). (row (own s m.cells) None ∷ rs, None)) (sym (rows_stay s (t ∷ stages) (Some (left_by m p) ∷ slots) cells p keeps.0 (first_apart s (t ∷ stages) apart)))
  rows_on (s ∷ stages) (x ∷ slots) cells (suc k) p keeps apart long here l =
      let shorter : length slots ≡ length stages = cc in
      let m = runs_stage code stages cells k p in
      ap (λ (later : List (Row Cells Packet) × Option Packet). (row (own s cells) x ∷ later.0, later.1)) (rows_on stages slots cells k p keeps.1 (rest_apart s stages apart) shorter here (omega (arith, l)))
      ∙ ap (λ (c : Cells). (row c x ∷ rows_of stages (slice_set (slice_set slots k None) (suc k) (Some (left_by m p))) m.cells, None))
      (same_own s cells m.cells (sym (made_length stages cells k p)) (λ g i. sym (made_leaves s stages cells k p g keeps.1 (first_apart s stages apart) i)))

  -- a packet that comes out
  rows_last : (stages : List StageCode) (slots : List (Option Packet)) (cells : Cells) (k : ℕ) (p : Packet) →
      AllByRecursion (KeepsToItsArrays code) stages → none_shared (λ (t : StageCode). t.arrays) stages ≡ true → length slots ≡ length stages → slice_get slots k ≡ Some (Some p) → suc k ≡ length slots →
      goes (steps_of code stages) k (rows_of stages slots cells)
      ≡ (rows_of stages (slice_set slots k None) (runs_stage code stages cells k p).cells, Some (left_by (runs_stage code stages cells k p) p))
  rows_last [] [] cells k p keeps apart long here l = cc
  rows_last [] (x ∷ slots) cells k p keeps apart long here l = cc
  rows_last (s ∷ stages) [] cells k p keeps apart long here l = cc
  rows_last (s ∷ []) (x ∷ []) cells zero p keeps apart long here l =
      let m = stage code (meets cells p) s in
      let o = step_own s cells p keeps.0 in
      ap (λ (a : Option Packet). goes (steps_of code (s ∷ [])) 0 (rows_of (s ∷ []) (a ∷ []) cells)) (some_inj x (Some p) here)
      ∙ ap₂ (λ (c : Cells) (q : Packet). (row c None ∷ [], Some q)) o.0 o.1
  rows_last (s ∷ []) (x ∷ y ∷ slots) cells zero p keeps apart long here l = cc
  rows_last (s ∷ t ∷ stages) (x ∷ []) cells zero p keeps apart long here l = cc
  rows_last (s ∷ t ∷ stages) (x ∷ y ∷ slots) cells zero p keeps apart long here l = cc
  rows_last (s ∷ stages) (x ∷ slots) cells (suc k) p keeps apart long here l =
      let shorter : length slots ≡ length stages = cc in
      let nearer : suc k ≡ length slots = cc in
      let m = runs_stage code stages cells k p in
      ap (λ (later : List (Row Cells Packet) × Option Packet). (row (own s cells) x ∷ later.0, later.1)) (rows_last stages slots cells k p keeps.1 (rest_apart s stages apart) shorter here nearer)
      ∙ ap (λ (c : Cells). (row c x ∷ rows_of stages (slice_set slots k None) m.cells, Some (left_by m p)))
      (same_own s cells m.cells (sym (made_length stages cells k p)) (λ g i. sym (made_leaves s stages cells k p g keeps.1 (first_apart s stages apart) i)))

  -- the cells of stages that are apart from s
  owns_stay : (s : StageCode) (stages : List StageCode) (cells : Cells) (p : Packet) → KeepsToItsArrays code s → AllByRecursion (IsApart s) stages → owns stages (stage code (meets cells p) s).cells ≡ owns stages cells
  owns_stay s [] cells p keeps apart = refl
  owns_stay s (t ∷ stages) cells p keeps apart =
      ap₂ (λ (c : Cells) (cs : List Cells). c ∷ cs)
      (same_own t (stage code (meets cells p) s).cells cells (stage_length code (meets cells p) s) (λ g i. keeps.others (meets cells p) g
      (by_test (is_in g s.arrays) (is_in g s.arrays ≡ false) (λ e. absurd (true≢false (sym i ∙ apart.0 g e))) (λ e. e))))
      (owns_stay s stages cells p keeps apart.1)

  -- A whole pass through the rows is a pass through the stages.
  pub whole_is : (stages : List StageCode) (cells : Cells) (p : Packet) → AllByRecursion (KeepsToItsArrays code) stages → none_shared (λ (t : StageCode). t.arrays) stages ≡ true →
      whole (steps_of code stages) (owns stages cells) p ≡ (owns stages (pass_from code stages (meets cells p)).cells, left_by (pass_from code stages (meets cells p)) p)
  whole_is [] cells p keeps apart = refl
  whole_is (s ∷ stages) cells p keeps apart =
      let m = stage code (meets cells p) s in
      let q = left_by m p in
      let o = step_own s cells p keeps.0 in
      let free = first_apart s stages apart in
      let after = pass_from code stages (meets m.cells q) in
      ap₂ (λ (c : Cells) (r : Packet). let later = whole (steps_of code stages) (owns stages cells) r in (c ∷ later.0, later.1)) o.0 o.1
      ∙ ap (λ (cs : List Cells). let later = whole (steps_of code stages) cs q in (own s m.cells ∷ later.0, later.1)) (sym (owns_stay s stages cells p keeps.0 free))
      ∙ ap (λ (later : List Cells × Packet). (own s m.cells ∷ later.0, later.1)) (whole_is stages m.cells q keeps.1 (rest_apart s stages apart))
      ∙ ap (λ (c : Cells). (c ∷ owns stages after.cells, left_by after q))
      (same_own s m.cells after.cells (sym (pass_length code stages (meets m.cells q))) (λ g i. sym (pass_leaves code s stages (meets m.cells q) g keeps.1 free i)))

-- ---- for a pipe

pub go_rows : (placed : PlacedParts) → AllByRecursion (KeepsToItsArrays placed.code) placed.stages → none_shared (λ (t : StageCode). t.arrays) placed.stages ≡ true →
    (pipe : PipeParts) (k : ℕ) (p : Packet) → pipe.placed ≡ placed → length pipe.slots ≡ length placed.stages → packet_at pipe k ≡ Some p → packet_at pipe (k + 1) ≡ None →
    (pipe_rows (gone pipe k p) ≡ (goes (steps_of placed.code placed.stages) k (pipe_rows pipe)).0)
    × (comes_out pipe k p ≡ option_map told (goes (steps_of placed.code placed.stages) k (pipe_rows pipe)).1)
go_rows placed keeps apart pipe k p is long here next =
    let full = there_full pipe.slots k p here in
    let below = slice_get_within pipe.slots k (Some p) full in
    let keeps_it = subst (λ (q : PlacedParts). AllByRecursion (KeepsToItsArrays q.code) q.stages) (sym is) keeps in
    let apart_it = subst (λ (q : PlacedParts). none_shared (λ (t : StageCode). t.arrays) q.stages ≡ true) (sym is) apart in
    let as_long = long ∙ ap (λ (q : PlacedParts). length q.stages) (sym is) in
    subst (λ (q : PlacedParts). (pipe_rows (gone pipe k p) ≡ (goes (steps_of q.code q.stages) k (pipe_rows pipe)).0) × (comes_out pipe k p ≡ option_map told (goes (steps_of q.code q.stages) k (pipe_rows pipe)).1)) is
    (⊎_elim
    (λ l. by_on l keeps_it apart_it as_long full)
    (λ l. by_last l (omega (arith, l, below)) keeps_it apart_it as_long full)
    (cases_lt (k + 1) (length pipe.slots)))
  where
    code : CodeParts
    code = pipe.placed.code

    stages : List StageCode
    stages = pipe.placed.stages

    m : Machine
    m = runs_stage code stages pipe.cells k p

    more : k + 1 ≡ suc k
    more = omega arith

    by_on : k + 1 < length pipe.slots → AllByRecursion (KeepsToItsArrays code) stages → none_shared (λ (t : StageCode). t.arrays) stages ≡ true → length pipe.slots ≡ length stages → slice_get pipe.slots k ≡ Some (Some p) →
        (pipe_rows (gone pipe k p) ≡ (goes (steps_of code stages) k (pipe_rows pipe)).0) × (comes_out pipe k p ≡ option_map told (goes (steps_of code stages) k (pipe_rows pipe)).1)
    by_on l keeps_it apart_it as_long full =
        let rows = rows_on code stages pipe.slots pipe.cells k p keeps_it apart_it as_long full (omega (arith, l)) in (
          ap (λ i. rows_of stages (slice_set (slice_set pipe.slots k None) i (Some (left_by m p))) m.cells) more ∙ sym (ap (λ (later : List (Row Cells Packet) × Option Packet). later.0) rows),
          ap (λ (b : Bool). if b then None else Some (told (left_by m p))) (lt-ltb (k + 1) (length pipe.slots) l) ∙ sym (ap (λ (later : List (Row Cells Packet) × Option Packet). option_map told later.1) rows),
        )

    by_last : length pipe.slots ≤ k + 1 → suc k ≡ length pipe.slots → AllByRecursion (KeepsToItsArrays code) stages → none_shared (λ (t : StageCode). t.arrays) stages ≡ true → length pipe.slots ≡ length stages → slice_get pipe.slots k ≡ Some (Some p) →
        (pipe_rows (gone pipe k p) ≡ (goes (steps_of code stages) k (pipe_rows pipe)).0) × (comes_out pipe k p ≡ option_map told (goes (steps_of code stages) k (pipe_rows pipe)).1)
    by_last l end keeps_it apart_it as_long full =
        let rows = rows_last code stages pipe.slots pipe.cells k p keeps_it apart_it as_long full end in
        let past : slice_set (slice_set pipe.slots k None) (k + 1) (Some (left_by m p)) ≡ slice_set pipe.slots k None
        = set_past (slice_set pipe.slots k None) (k + 1) (Some (left_by m p)) (omega (arith, l, length-set pipe.slots k None)) in (
          ap (λ ss. rows_of stages ss m.cells) past ∙ sym (ap (λ (later : List (Row Cells Packet) × Option Packet). later.0) rows),
          ap (λ (b : Bool). if b then None else Some (told (left_by m p))) (le-ltb (k + 1) (length pipe.slots) l) ∙ sym (ap (λ (later : List (Row Cells Packet) × Option Packet). option_map told later.1) rows),
        )

pub enter_rows : (placed : PlacedParts) (pipe : PipeParts) (event : Event) (now me : ℕ) → pipe.placed ≡ placed → length pipe.slots ≡ length placed.stages →
    pipe_rows (entered pipe event now me) ≡ entered_by (Some (entering placed.code event now me)) (pipe_rows pipe)
enter_rows placed pipe event now me is long =
    by pipe.placed.stages pipe.slots (long ∙ ap (λ (q : PlacedParts). length q.stages) (sym is))
    ∙ ap (λ (q : PlacedParts). entered_by (Some (entering q.code event now me)) (pipe_rows pipe)) is
  where
    by : (stages : List StageCode) (slots : List (Option Packet)) → length slots ≡ length stages →
        rows_of stages (slice_set slots 0 (Some (entering pipe.placed.code event now me))) pipe.cells ≡ entered_by (Some (entering pipe.placed.code event now me)) (rows_of stages slots pipe.cells)
    by [] slots e = refl
    by (s ∷ stages) [] e = refl
    by (s ∷ stages) (x ∷ slots) e = refl

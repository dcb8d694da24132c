-- The pipe of a switch is seen as the network has it whose handlers run whole.
use Rattle.std.proofs.Common.{◌≡◌, ℕ, zero, suc, ◌+◌, ◌-◌, ◌<◌, ◌≤◌, ◌⊎◌, inl, inr, List, [], ◌∷◌, ◌++◌, Bool, ◌&&◌, if◌then◌else◌, is_some, length, get_or, map, replicate, Option, None, Some, option_map, refl, sym, ◌∙◌, ap, ap₂, subst, arith}
use Rattle.std.proofs.lemmas.Bool.{cases_lt, lt-ltb, le-ltb}
use Rattle.std.proofs.lemmas.List.{length-map}
use Rattle.std.proofs.lemmas.List.FromFn.{get_or-map-range_with_len, length-map-range_with_len}
use Rattle.std.specs.Option.{option_map_or}
use Rattle.lucid_base.specs.Cells.{row_of, zero_cells}
use Rattle.lucid_base.specs.declared.array.ArrayDef.{ArrayDef}
use Rattle.lucid_net_laws.specs.Runs.{entering}
use Rattle.lucid_net_laws.specs.Stages.{fed}
use Rattle.lucid_net_spec.specs.Ways.{Network}
use Rattle.lucid_net_laws.specs.Rows.{Cells, cells_of, first_cells, step_of}
use Rattle.lucid_net_laws.specs.PipeStages.{stages_of}
use Rattle.lucid_pipe.specs.Packets.{Packet}
use Rattle.lucid_pipe.specs.Pipe.{PipeParts}
use Rattle.lucid_pipe.specs.Rows.{array_cells, by_array}
use Rattle.lucid_pipe.specs.Sights as seen
use Rattle.lucid_pipe_laws.specs.Rows.{Row}
use Rattle.lucid_pipe_laws.specs.Sights.{pasts}
use Rattle.lucid_pipe_laws.specs.Stream.{picture}
use Rattle.lucid_tables.specs.Placed.{PlacedParts, stage_of}
use Rattle.lucid_tables.specs.declared.stage.StageCode.{StageCode}
use Rattle.lucid_net.specs.Holds.{Holds, entry_by, entry_of}
use Rattle.lucid_net.specs.Pipes.{IsPiped, IsReady, Piped}
use Rattle.lucid_net.specs.Sights.{cells_before, places_from, row_at, rows_from, sight_at}
use Rattle.lucid_net.proofs.Holding.{holds, past_end}
use Rattle.lucid_net.proofs.Piping.{pipe_between}

-- ---- places

some-map : {A B : Type 0} (f : A → B) (o : Option A) → is_some (option_map f o) ≡ is_some o
some-map f None = refl
some-map f (Some x) = refl

-- the places of the taken slots, the last first
abbrev spots : {X : Type 0} → ℕ → List (Option X) → List ℕ
spots k [] = []
spots k (o ∷ os) = spots (suc k) os ++ (if is_some o then k ∷ [] else [])

slots_spots : {X : Type 0} (of : Packet → X) (k : ℕ) (slots : List (Option Packet)) → seen.places_from k slots ≡ spots k (map (λ (slot : Option Packet). option_map of slot) slots)
slots_spots of k [] = refl
slots_spots of k (slot ∷ slots) = ap₂ (λ (l : List ℕ) (b : Bool). l ++ (if b then k ∷ [] else [])) (slots_spots of (suc k) slots) (sym (some-map of slot))

pasts_spots : (net : Network) (at switch t k n : ℕ) → t ≡ at - k → spots k (pasts (λ tick. option_map entry_by (entering net switch tick)) t n) ≡ places_from net at switch k n
pasts_spots net at switch t k zero then_t = refl
pasts_spots net at switch zero k (suc n) then_t =
    ap₂ (λ (l : List ℕ) (b : Bool). l ++ (if b then k ∷ [] else [])) (pasts_spots net at switch zero (suc k) n (omega (arith, then_t)))
    (sym (ap (λ (b : Bool). b && is_some (entering net switch (at - suc k))) (le-ltb k at (early then_t))))
  where
    early : zero ≡ at - k → at ≤ k
    early is = omega (arith, is)
pasts_spots net at switch (suc t) k (suc n) then_t =
    ap₂ (λ (l : List ℕ) (b : Bool). l ++ (if b then k ∷ [] else [])) (pasts_spots net at switch t (suc k) n (omega (arith, then_t)))
    (some-map entry_by (entering net switch t) ∙ ap (λ (j : ℕ). is_some (entering net switch j)) (one then_t)
    ∙ sym (ap (λ (b : Bool). b && is_some (entering net switch (at - suc k))) (lt-ltb k at (late then_t))))
  where
    one : suc t ≡ at - k → t ≡ at - suc k
    one is = omega (arith, is)

    late : suc t ≡ at - k → k < at
    late is = omega (arith, is)

-- ---- cells

rows_are : (net : Network) (stages : List StageCode) (at switch : ℕ) (arrays : List ArrayDef) (cells : List (List ℕ)) (g : ℕ) → length cells ≡ length arrays →
    ((i k : ℕ) → stage_of stages (g + i) ≡ Some k → row_of cells i ≡ row_of (cells_before net at switch k) (g + i)) →
    ((i : ℕ) → stage_of stages (g + i) ≡ None → row_of cells i ≡ row_of (zero_cells arrays) i) → cells ≡ rows_from net stages at switch g arrays
rows_are net stages at switch [] [] g long stands idle = refl
rows_are net stages at switch [] (r ∷ cells) g long stands idle = absurd (omega (arith, long))
rows_are net stages at switch (a ∷ arrays) [] g long stands idle = absurd (omega (arith, long))
rows_are net stages at switch (a ∷ arrays) (r ∷ cells) g long stands idle =
    ap₂ (λ (x : List ℕ) (l : List (List ℕ)). x ∷ l) (here (stage_of stages g) refl)
    (rows_are net stages at switch arrays cells (suc g) (omega (arith, long))
    (λ i k e. subst (λ (n : ℕ). row_of cells i ≡ row_of (cells_before net at switch k) n) (more i) (stands (suc i) k (ap (stage_of stages) (more i) ∙ e)))
    (λ i e. idle (suc i) (ap (stage_of stages) (more i) ∙ e)))
  where
    none : g + 0 ≡ g
    none = omega arith

    more : (i : ℕ) → g + suc i ≡ suc g + i
    more i = omega arith

    here : (found : Option ℕ) → stage_of stages g ≡ found → r ≡ row_at net stages at switch g a
    here None e =
        idle 0 (ap (stage_of stages) none ∙ e)
        ∙ sym (ap (λ (o : Option ℕ). option_map_or (λ k. row_of (cells_before net at switch k) g) o (replicate a.size 0)) e)
    here (Some k) e =
        stands 0 k (ap (stage_of stages) none ∙ e)
        ∙ ap (row_of (cells_before net at switch k)) none
        ∙ sym (ap (λ (o : Option ℕ). option_map_or (λ k. row_of (cells_before net at switch k) g) o (replicate a.size 0)) e)

-- the cells of an array in no stage are the same for any cells of the stages
same_idle : (arrays : List ArrayDef) (stages : List StageCode) (cs ds : List Cells) (g : ℕ) → stage_of stages g ≡ None → row_of (by_array arrays stages cs) g ≡ row_of (by_array arrays stages ds) g
same_idle arrays stages cs ds g is = at (cases_lt g (length arrays))
  where
    here : array_cells arrays stages cs g ≡ array_cells arrays stages ds g
    here =
        ap (λ (o : Option ℕ). option_map_or (λ (j : ℕ). row_of (get_or cs j []) g) o (row_of (zero_cells arrays) g)) is
        ∙ sym (ap (λ (o : Option ℕ). option_map_or (λ (j : ℕ). row_of (get_or ds j []) g) o (row_of (zero_cells arrays) g)) is)

    at : (g < length arrays) ⊎ (length arrays ≤ g) → row_of (by_array arrays stages cs) g ≡ row_of (by_array arrays stages ds) g
    at (inl lt) =
        get_or-map-range_with_len (array_cells arrays stages cs) 0 (length arrays) g g [] lt (omega arith) ∙ here
        ∙ sym (get_or-map-range_with_len (array_cells arrays stages ds) 0 (length arrays) g g [] lt (omega arith))
    at (inr le) =
        past_end (by_array arrays stages cs) g [] (subst (λ (n : ℕ). n ≤ g) (sym (length-map-range_with_len (array_cells arrays stages cs) 0 (length arrays))) le)
        ∙ sym (past_end (by_array arrays stages ds) g [] (subst (λ (n : ℕ). n ≤ g) (sym (length-map-range_with_len (array_cells arrays stages ds) 0 (length arrays))) le))

idle_stage : (placed : PlacedParts) (cs ds : List Cells) (g : ℕ) → stage_of placed.stages g ≡ None → row_of (cells_of placed cs) g ≡ row_of (cells_of placed ds) g
unfolding cells_of
idle_stage placed cs ds g is = same_idle placed.code.arrays placed.stages cs ds g is

many_arrays : (placed : PlacedParts) (cs ds : List Cells) → length (cells_of placed cs) ≡ length (cells_of placed ds)
unfolding cells_of
many_arrays placed cs ds =
    length-map-range_with_len (array_cells placed.code.arrays placed.stages cs) 0 (length placed.code.arrays)
    ∙ sym (length-map-range_with_len (array_cells placed.code.arrays placed.stages ds) 0 (length placed.code.arrays))

-- ---- the sight

pub sight_between : (net : Network) (placed : PlacedParts) (at switch : ℕ) (now : Piped) (p : PipeParts) → IsReady net placed → switch < net.scene.switches → at ≤ net.scene.stop → IsPiped net placed at 0 now →
    p ≡ get_or now.pipes switch p → seen.sight_of switch p ≡ sight_at net placed at switch
sight_between net placed at switch now p ready lt within is here = ap₂ (λ (l : List ℕ) (c : List (List ℕ)). record { switch = switch; places = l; cells = c }) places cells
  where
    held : Holds net placed at switch p
    held = holds net placed at switch now p ready lt within is here

    none : at ≡ at - 0
    none = omega arith

    places : seen.places p ≡ places_from net at switch 0 net.limits.stages
    places = slots_spots entry_of 0 p.slots ∙ ap (spots 0) held.flight ∙ pasts_spots net at switch at 0 net.limits.stages none

    rows : List Cells
    rows = map (λ (r : Row Cells Packet). r.cells) (picture (step_of placed) (first_cells placed) (fed net (stages_of placed) switch) at)

    has : p.cells ≡ cells_of placed rows
    has = ap (λ (q : PipeParts). q.cells) (pipe_between net placed at switch now p lt is here)

    start : cells_of placed (first_cells placed) ≡ zero_cells net.parts.arrays
    start = ready.sound.does.start

    many : length p.cells ≡ length net.parts.arrays
    many =
        ap (λ (c : List (List ℕ)). length c) has ∙ many_arrays placed rows (first_cells placed)
        ∙ ap (λ (c : List (List ℕ)). length c) start ∙ length-map net.parts.arrays (λ (a : ArrayDef). replicate a.size 0)

    idle : (g : ℕ) → stage_of placed.stages g ≡ None → row_of p.cells g ≡ row_of (zero_cells net.parts.arrays) g
    idle g e =
        ap (λ (c : List (List ℕ)). row_of c g) has ∙ idle_stage placed rows (first_cells placed) g e ∙ ap (λ (c : List (List ℕ)). row_of c g) start

    zero_first : (i : ℕ) → i ≡ 0 + i
    zero_first i = omega arith

    cells : p.cells ≡ rows_from net placed.stages at switch 0 net.parts.arrays
    cells = rows_are net placed.stages at switch net.parts.arrays p.cells 0 many
        (λ i k. subst (λ (n : ℕ). stage_of placed.stages n ≡ Some k → row_of p.cells i ≡ row_of (cells_before net at switch k) n) (zero_first i) (held.stages k i))
        (λ i. subst (λ (n : ℕ). stage_of placed.stages n ≡ None → row_of p.cells i ≡ row_of (zero_cells net.parts.arrays) i) (zero_first i) (idle i))

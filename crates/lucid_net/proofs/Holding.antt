-- A pipe between two ticks, by the network whose events run whole.
use Rattle.std.proofs.Common.{◌≡◌, ℕ, zero, suc, ◌-◌, ◌<◌, ◌≤◌, ◌⊎◌, inl, inr, List, [], ◌∷◌, length, get_or, map, Option, None, Some, option_map, refl, sym, ◌∙◌, ap, subst, arith}
use Rattle.std.proofs.lemmas.Bool.{cases_lt}
use Rattle.std.proofs.lemmas.List.FromFn.{get_or-map-range_with_len, length-map-range_with_len}
use Rattle.std.specs.Option.{option_map_or}
use Rattle.lucid_base.specs.Cells.{row_of, zero_cells}
use Rattle.lucid_base.specs.declared.array.ArrayDef.{ArrayDef}
use Rattle.lucid_core.specs.Step.{Entry}
use Rattle.lucid_net_laws.proofs.Leavers.{picture_long}
use Rattle.lucid_net_laws.proofs.Whole.{clock_start, whole_at}
use Rattle.lucid_net_laws.specs.Fitting.{fits}
use Rattle.lucid_net_laws.specs.Runs.{entering}
use Rattle.lucid_net_laws.specs.Stages.{fed, packet_of}
use Rattle.lucid_net_laws.specs.Whole.{IsWhole}
use Rattle.lucid_net_spec.specs.Log.{ticks}
use Rattle.lucid_net_spec.specs.Ways.{Network, Run}
use Rattle.lucid_net_laws.specs.Does.{IsGood}
use Rattle.lucid_net_laws.specs.Rows.{Cells, Rows, cells_of, first_cells, rows_in, step_of}
use Rattle.lucid_net_laws.specs.PipeStages.{stages_of}
use Rattle.lucid_pipe.specs.Packets.{Packet}
use Rattle.lucid_pipe.specs.Pipe.{PipeParts}
use Rattle.lucid_pipe.specs.Rows.{array_cells, by_array}
use Rattle.lucid_pipe_laws.proofs.Stream.{settles_to}
use Rattle.lucid_pipe_laws.proofs.Sights.{flight_law, stage_law}
use Rattle.lucid_pipe_laws.specs.Rows.{Row, Steps, after_first, row, settled}
use Rattle.lucid_pipe_laws.specs.Sights.{KeepsTag, pasts}
use Rattle.lucid_pipe_laws.specs.Stream.{cells_at, next, picture}
use Rattle.lucid_tables.specs.Placed.{PlacedParts, stage_of}
use Rattle.lucid_tables.specs.declared.stage.StageCode.{StageCode}
use Rattle.lucid_net.specs.Holds.{Holds, entry_by, entry_of}
use Rattle.lucid_net.specs.Pipes.{IsPiped, IsReady, Piped}
use Rattle.lucid_net.specs.Rows.{pipe_at}
use Rattle.lucid_net.proofs.Piping.{pipe_between, rows_between}

-- ---- the packets in flight

slots_of : (rows : Rows) → map (λ (slot : Option Packet). option_map entry_of slot) (map (λ (r : Row Cells Packet). r.slot) rows) ≡ map (λ (r : Row Cells Packet). option_map entry_of r.slot) rows
slots_of [] = refl
slots_of (r ∷ rows) = ap (λ (l : List (Option Entry)). option_map entry_of r.slot ∷ l) (slots_of rows)

pasts_same : (f g : ℕ → Option Entry) (t k : ℕ) → ((e : ℕ) → f e ≡ g e) → pasts f t k ≡ pasts g t k
pasts_same f g t zero same = refl
pasts_same f g zero (suc k) same = ap (λ (l : List (Option Entry)). None ∷ l) (pasts_same f g zero k same)
pasts_same f g (suc t) (suc k) same = ap (λ (o : Option Entry). o ∷ pasts f t k) (same t) ∙ ap (λ (l : List (Option Entry)). g t ∷ l) (pasts_same f g t k same)

-- a stage keeps the event of a packet, and where and when it entered
keeps_entry : (placed : PlacedParts) → KeepsTag (step_of placed) entry_of
unfolding step_of
keeps_entry placed k c p = refl

entry_fed : (placed : PlacedParts) (o : Option Run) → option_map entry_of (option_map (packet_of (stages_of placed)) o) ≡ option_map entry_by o
entry_fed placed None = refl
entry_fed placed (Some run) = refl

-- ---- the cells of a stage

row_cells : (rows : Rows) (k : ℕ) → get_or (map (λ (r : Row Cells Packet). r.cells) rows) k [] ≡ (get_or rows k (row [] None)).cells
row_cells [] k = refl
row_cells (r ∷ rows) zero = refl
row_cells (r ∷ rows) (suc k) = row_cells rows k

pub past_end : {X : Type 0} (xs : List X) (k : ℕ) (d : X) → length xs ≤ k → get_or xs k d ≡ d
past_end [] k d le = refl
past_end (x ∷ xs) zero d le = absurd (omega (arith, le))
past_end (x ∷ xs) (suc k) d le = past_end xs k d (omega (arith, le))

long_cells : (placed : PlacedParts) (cs : List Cells) (run : ℕ → Option Packet) (t : ℕ) → length (cells_at (step_of placed) cs run t) ≡ length cs
long_cells placed cs run t = as_long (step_of placed) cs run t
  where
    as_long : (step : Steps Cells Packet) (cs : List Cells) (run : ℕ → Option Packet) (t : ℕ) → length (cells_at step cs run t) ≡ length cs
    as_long step [] run t = refl
    as_long step (c ∷ cs) run t = ap suc (as_long (after_first step) cs (next (step 0) c run) t)

cells_map : (rows : Rows) → length (map (λ (r : Row Cells Packet). r.cells) rows) ≡ length rows
cells_map [] = refl
cells_map (r ∷ rows) = ap suc (cells_map rows)

-- the cells of an array are those of its stage alone
same_stage : (arrays : List ArrayDef) (stages : List StageCode) (cs ds : List Cells) (k g : ℕ) → stage_of stages g ≡ Some k → get_or cs k [] ≡ get_or ds k [] → row_of (by_array arrays stages cs) g ≡ row_of (by_array arrays stages ds) g
same_stage arrays stages cs ds k g is same = at (cases_lt g (length arrays))
  where
    here : array_cells arrays stages cs g ≡ array_cells arrays stages ds g
    here =
        ap (λ (o : Option ℕ). option_map_or (λ (j : ℕ). row_of (get_or cs j []) g) o (row_of (zero_cells arrays) g)) is ∙ ap (λ (c : Cells). row_of c g) same
        ∙ sym (ap (λ (o : Option ℕ). option_map_or (λ (j : ℕ). row_of (get_or ds j []) g) o (row_of (zero_cells arrays) g)) is)

    at : (g < length arrays) ⊎ (length arrays ≤ g) → row_of (by_array arrays stages cs) g ≡ row_of (by_array arrays stages ds) g
    at (inl lt) =
        get_or-map-range_with_len (array_cells arrays stages cs) 0 (length arrays) g g [] lt (omega arith) ∙ here
        ∙ sym (get_or-map-range_with_len (array_cells arrays stages ds) 0 (length arrays) g g [] lt (omega arith))
    at (inr le) =
        past_end (by_array arrays stages cs) g [] (subst (λ (n : ℕ). n ≤ g) (sym (length-map-range_with_len (array_cells arrays stages cs) 0 (length arrays))) le)
        ∙ sym (past_end (by_array arrays stages ds) g [] (subst (λ (n : ℕ). n ≤ g) (sym (length-map-range_with_len (array_cells arrays stages ds) 0 (length arrays))) le))

array_stage : (placed : PlacedParts) (cs ds : List Cells) (k g : ℕ) → stage_of placed.stages g ≡ Some k → get_or cs k [] ≡ get_or ds k [] → row_of (cells_of placed cs) g ≡ row_of (cells_of placed ds) g
unfolding cells_of
array_stage placed cs ds k g is same = same_stage placed.code.arrays placed.stages cs ds k g is same

pub holds : (net : Network) (placed : PlacedParts) (at switch : ℕ) (now : Piped) (p : PipeParts) → IsReady net placed → switch < net.scene.switches → at ≤ net.scene.stop → IsPiped net placed at 0 now →
    p ≡ get_or now.pipes switch p → Holds net placed at switch p
holds net placed at switch now p ready lt within is here = record {
  flight = ap (λ (q : PipeParts). map (λ (slot : Option Packet). option_map entry_of slot) q.slots) stands
      ∙ slots_of (picture step cells run at)
      ∙ flight_law step entry_of (keeps_entry placed) cells run at
      ∙ pasts_same (λ e. option_map entry_of (run e)) (λ e. option_map entry_by (entering net switch e)) at (length cells) (λ e. entry_fed placed (entering net switch e))
      ∙ ap (pasts (λ e. option_map entry_by (entering net switch e)) at) ready.sound.long;
  settles = ap (λ (rows : Rows). cells_of placed (settled step rows).0) rows ∙ ap (cells_of placed) (settles_to step cells run at) ∙ sym (cells_then at within);
  stages = λ k g of.
      ap (λ (q : PipeParts). row_of q.cells g) stands
      ∙ array_stage placed (map (λ (r : Row Cells Packet). r.cells) (picture step cells run at)) (cells_at step cells run (at - suc k)) k g of (stage_cells k)
      ∙ ap (λ (c : Cells). row_of c g) (sym (cells_then (at - suc k) (omega (arith, within))));
}
  where
    step : Steps Cells Packet
    step = step_of placed

    cells : List Cells
    cells = first_cells placed

    run : ℕ → Option Packet
    run = fed net (stages_of placed) switch

    stands : p ≡ pipe_at net placed at switch
    stands = pipe_between net placed at switch now p lt is here

    rows : rows_in p ≡ picture step cells run at
    rows = rows_between net placed at switch now p lt is here

    whole : (t : ℕ) → t ≤ net.scene.stop → IsWhole net (stages_of placed) (IsGood placed net.parts) t 0
    whole t le = whole_at net (stages_of placed) (IsGood placed net.parts) (fits net.parts) t ready.sound.does ready.sound.fit le

    cells_then : (t : ℕ) → t ≤ net.scene.stop → get_or (ticks net t).cells switch [] ≡ cells_of placed (cells_at step cells run t)
    cells_then t le = (whole t le).cells switch lt ∙ ap (λ (k : ℕ). cells_of placed (cells_at step cells run k)) (clock_start t switch)

    stage_cells : (k : ℕ) → get_or (map (λ (r : Row Cells Packet). r.cells) (picture step cells run at)) k [] ≡ get_or (cells_at step cells run (at - suc k)) k []
    stage_cells k = by (cases_lt k (length cells))
      where
        by : (k < length cells) ⊎ (length cells ≤ k) → get_or (map (λ (r : Row Cells Packet). r.cells) (picture step cells run at)) k [] ≡ get_or (cells_at step cells run (at - suc k)) k []
        by (inl below) = row_cells (picture step cells run at) k ∙ stage_law step cells run at k (row [] None) below
        by (inr past) =
            past_end (map (λ (r : Row Cells Packet). r.cells) (picture step cells run at)) k [] (omega (arith, past, cells_map (picture step cells run at), picture_long step cells run at))
            ∙ sym (past_end (cells_at step cells run (at - suc k)) k [] (omega (arith, past, long_cells placed cells run (at - suc k))))

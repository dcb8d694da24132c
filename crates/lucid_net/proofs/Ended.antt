-- The end of a network with pipes: their cells, at the end and at the start.
use Rattle.std.proofs.Common.{◌≡◌, ℕ, zero, suc, ◌+◌, ◌-◌, ◌<◌, ◌≤◌, List, [], ◌∷◌, ◌++◌, length, get_or, map, drop, replicate, true, refl, sym, ◌∙◌, ap, subst, arith}
use Rattle.std.proofs.lemmas.Bool.Decides.{nat_tests}
use Rattle.std.proofs.lemmas.List.{length-map}
use Rattle.std.specs.List.{AllByRecursion, list_all}
use Rattle.lucid_base.specs.declared.array.ArrayDef.{ArrayDef}
use Rattle.lucid_core.specs.Parts.{CoreParts}
use Rattle.lucid_log.specs.Cells.{cells_text}
use Rattle.lucid_log.specs.Ending.{ending_text}
use Rattle.lucid_net_laws.proofs.Draining.{drained}
use Rattle.lucid_net_laws.proofs.Flying.{flying_start}
use Rattle.lucid_net_laws.proofs.Whole.{whole_at}
use Rattle.lucid_net_laws.specs.Fitting.{fits}
use Rattle.lucid_net_laws.specs.Flying.{IsFlying}
use Rattle.lucid_net_laws.specs.Runs.{late_text}
use Rattle.lucid_net_laws.specs.Whole.{IsWhole}
use Rattle.lucid_net_spec.specs.Log.{all_cells, start, ticks}
use Rattle.lucid_net_spec.specs.Pieces.{pieces}
use Rattle.lucid_net_spec.specs.Ways.{Network}
use Rattle.lucid_net_laws.specs.Does.{IsGood}
use Rattle.lucid_net_laws.specs.Rows.{Cells, Rows, cells_of, rows_in}
use Rattle.lucid_net_laws.specs.PipeStages.{stages_of}
use Rattle.lucid_pipe.specs.Packets.{Packet}
use Rattle.lucid_pipe.specs.Pipe.{PipeParts, empty_pipe as new_pipe}
use Rattle.lucid_pipe_laws.specs.Rows.{Row, empty_pipe}
use Rattle.lucid_queue.specs.declared.pending.Pending.{Pending}
use Rattle.lucid_tables.specs.Placed.{PlacedParts}
use Rattle.lucid_net.specs.Kept.{is_kept}
use Rattle.lucid_net.specs.Pipes.{IsDrained, IsPiped, IsReady, Piped, flying_of, kept_from}
use Rattle.lucid_net.specs.Rows.{IsOf, held}
use Rattle.lucid_net.specs.Seen.{last_text}
use Rattle.lucid_net.proofs.Piping.{all_get, map_get}
use Rattle.lucid_net.proofs.Running.{all_cells-next, all_cells-none}
use Rattle.lucid_net.proofs.Went.{empty_of, rows_empty}

-- the cells of one more pipe
pub pipes-next : (parts : CoreParts) (arrays : List ArrayDef) (all : List PipeParts) (i : ℕ) (p : PipeParts) → i < length all → p ≡ get_or all i p → arrays ≡ parts.arrays →
    all_cells parts i (drop i (map held all)) ≡ cells_text i arrays (held p) ++ all_cells parts (i + 1) (drop (i + 1) (map held all))
pipes-next parts arrays all i p lt is same =
    all_cells-next parts arrays (map held all) i (held p) (subst (λ (n : ℕ). i < n) (sym (length-map all held)) lt) (sym (map_get held all i p (held p) lt is)) same

pub pipes-none : (parts : CoreParts) (all : List PipeParts) (i : ℕ) → length all ≤ i → all_cells parts i (drop i (map held all)) ≡ []
pipes-none parts all i le = all_cells-none parts (map held all) i (subst (λ (n : ℕ). n ≤ i) (sym (length-map all held)) le)

-- lists that are the same at each place
same_lists : (xs ys : List Cells) → length xs ≡ length ys → ((k : ℕ) → k < length xs → get_or xs k [] ≡ get_or ys k []) → xs ≡ ys
same_lists [] [] long same = refl
same_lists [] (y ∷ ys) long same = cc
same_lists (x ∷ xs) [] long same = cc
same_lists (x ∷ xs) (y ∷ ys) long same =
    let long_rest : length xs ≡ length ys = omega (arith, long) in
    let rest : xs ≡ ys = same_lists xs ys long_rest (λ (k : ℕ) (lt : k < length xs). same (suc k) (omega (arith, lt))) in
    let here : x ≡ y = same zero (omega arith) in
    ap (λ (l : List Cells). x ∷ l) rest ∙ ap (λ (c : Cells). c ∷ ys) here

cells_back : (cs : List Cells) → map (λ (r : Row Cells Packet). r.cells) (empty_pipe cs) ≡ cs
cells_back [] = refl
cells_back (c ∷ cs) = ap (λ (l : List Cells). c ∷ l) (cells_back cs)

-- the state once all have left
pub record Ended (net : Network) (now : Piped) (count : ℕ) : Type 0 where
  pub cells : map held now.pipes ≡ (ticks net net.scene.stop).cells
  pub entered : now.entered ≡ (ticks net net.scene.stop).entered
  pub lost : now.lost ≡ (ticks net net.scene.stop).lost
  pub waiting : count ≡ length (ticks net net.scene.stop).pending

pub ended : (net : Network) (placed : PlacedParts) (now : Piped) (waiting : ℕ) → IsReady net placed → IsDrained net placed (net.scene.stop + net.limits.stages) 0 now waiting → Ended net now waiting
ended net placed now waiting ready is = record {
  cells = same_lists (map held now.pipes) (ticks net net.scene.stop).cells (length-map now.pipes held ∙ sym (length-map now.pipes (λ (q : PipeParts). (rows_in q))) ∙ is.draining.long ∙ sym whole.long) at;
  entered = is.entered;
  lost = end.1;
  waiting = end.2;
}
  where
    end : ((u : ℕ) → u < net.scene.switches → (cs : List Cells) × (get_or (flying_of now).pipes u [] ≡ empty_pipe cs) × (cells_of placed cs ≡ get_or (ticks net net.scene.stop).cells u []))
        × (now.lost ≡ (ticks net net.scene.stop).lost) × (waiting ≡ length (ticks net net.scene.stop).pending)
    end = drained net (stages_of placed) (IsGood placed net.parts) (fits net.parts) (flying_of now) waiting ready.sound is.draining

    whole : IsWhole net (stages_of placed) (IsGood placed net.parts) net.scene.stop 0
    whole = whole_at net (stages_of placed) (IsGood placed net.parts) (fits net.parts) net.scene.stop ready.sound.does ready.sound.fit (omega arith)

    pipe : ℕ → PipeParts
    pipe u = get_or now.pipes u (new_pipe placed)

    held_is : (p : PipeParts) (cs : List Cells) → IsOf placed p → (rows_in p) ≡ empty_pipe cs → held p ≡ cells_of placed cs
    held_is p cs own rows = ap (λ (q : PipeParts). q.cells) own ∙ ap (λ (l : Rows). cells_of placed (map (λ (r : Row Cells Packet). r.cells) l)) rows ∙ ap (cells_of placed) (cells_back cs)

    itself : (xs : List PipeParts) (k : ℕ) (d : PipeParts) → k < length xs → get_or xs k d ≡ get_or xs k (get_or xs k d)
    itself [] k d lt = absurd (omega (arith, lt))
    itself (x ∷ xs) zero d lt = refl
    itself (x ∷ xs) (suc k) d lt = itself xs k d (omega (arith, lt))

    at : (k : ℕ) → k < length (map held now.pipes) → get_or (map held now.pipes) k [] ≡ get_or (ticks net net.scene.stop).cells k []
    at k lt =
        let within : k < length now.pipes = subst (λ (n : ℕ). k < n) (length-map now.pipes held) lt in
        let below : k < net.scene.switches = omega (arith, within, is.draining.long, length-map now.pipes (λ (q : PipeParts). (rows_in q))) in
        let e = end.0 k below in
        map_get held now.pipes k (pipe k) [] within (itself now.pipes k (new_pipe placed) within)
        ∙ held_is (pipe k) e.0 (all_get (IsOf placed) now.pipes k (new_pipe placed) is.same within)
        (sym (map_get (λ (q : PipeParts). (rows_in q)) now.pipes k (pipe k) [] within (itself now.pipes k (new_pipe placed) within)) ∙ e.1)
        ∙ e.2

-- the text of the end, by the content of the pipes
pub last_is : (net : Network) (now : Piped) (waiting : ℕ) → Ended net now waiting →
    last_text net net.limits.stages ≡ pieces (late_text net net.limits.stages) net.scene.stop net.limits.stages ++ (all_cells net.parts 0 (map held now.pipes) ++ ending_text now.entered now.lost waiting)
last_is net now waiting e =
    let before : List ℕ = pieces (late_text net net.limits.stages) net.scene.stop net.limits.stages in
    ap (λ (c : List Cells). before ++ (all_cells net.parts 0 c ++ ending_text (ticks net net.scene.stop).entered (ticks net net.scene.stop).lost (length (ticks net net.scene.stop).pending))) (sym e.cells)
    ∙ ap (λ (k : ℕ). before ++ (all_cells net.parts 0 (map held now.pipes) ++ ending_text k (ticks net net.scene.stop).lost (length (ticks net net.scene.stop).pending))) (sym e.entered)
    ∙ ap (λ (k : ℕ). before ++ (all_cells net.parts 0 (map held now.pipes) ++ ending_text now.entered k (length (ticks net net.scene.stop).pending))) (sym e.lost)
    ∙ ap (λ (k : ℕ). before ++ (all_cells net.parts 0 (map held now.pipes) ++ ending_text now.entered now.lost k)) (sym e.waiting)

-- ---- the start

replicated : (n : ℕ) (p : PipeParts) → map (λ (q : PipeParts). (rows_in q)) (replicate n p) ≡ replicate n (rows_in p)
replicated zero p = refl
replicated (suc n) p = ap (λ (l : List Rows). (rows_in p) ∷ l) (replicated n p)

all_same : (placed : PlacedParts) (n : ℕ) (p : PipeParts) → IsOf placed p → AllByRecursion (IsOf placed) (replicate n p)
all_same placed zero p of = tt
all_same placed (suc n) p of = (of, all_same placed n p of)

pub piped_start : (net : Network) (placed : PlacedParts) (pipes : List PipeParts) (pending : List Pending) → pipes ≡ replicate net.scene.switches (new_pipe placed) → pending ≡ (start net).pending →
    list_all (is_kept net.parts 0 0 0) pending ≡ true → IsPiped net placed 0 0 (record { pipes = pipes; pending = pending; entered = 0; lost = 0 })
piped_start net placed pipes pending are waits kept = record {
  flying = subst (λ (q : List Pending). IsFlying net (stages_of placed) 0 0 (record { pipes = map (λ (q : PipeParts). (rows_in q)) pipes; pending = q; entered = 0; lost = 0 })) (sym waits)
      (flying_start net (stages_of placed) (map (λ (q : PipeParts). (rows_in q)) pipes) (ap (map (λ (q : PipeParts). (rows_in q))) are ∙ replicated net.scene.switches (new_pipe placed) ∙ ap (replicate net.scene.switches) (rows_empty placed)));
  same = subst (AllByRecursion (IsOf placed)) (sym are) (all_same placed net.scene.switches (new_pipe placed) (empty_of placed));
  kept = subst (λ (t : ℕ). list_all (is_kept net.parts t (kept_from net.limits.stages 0 0) 0) pending ≡ true) none (subst (λ (s : ℕ). list_all (is_kept net.parts 0 s 0) pending ≡ true) (nought net.limits.stages) kept);
}
  where
    none : 0 ≡ 0 - net.limits.stages
    none = omega arith

    nought : (stages : ℕ) → 0 ≡ kept_from stages 0 0
    nought stages = grind (arith, nat_tests)

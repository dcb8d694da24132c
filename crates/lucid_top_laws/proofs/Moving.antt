-- Moves of a pipeline in any order come to the entered events run whole.
use Rattle.std.proofs.Common.{◌≡◌, ◌∙◌, ◌+◌, ℕ, List, [], ◌∷◌, ◌++◌, Option, None, Some, refl, ap, ap₂}
use Rattle.std.specs.Prelude.{All}
use Rattle.std.specs.List.{fold}
use Rattle.std.proofs.lemmas.List.Elements.{All-head, All-tail}
use Rattle.lucid_base.specs.Cells.{zero_cells}
use Rattle.lucid_base.specs.declared.array.ArrayDef.{ArrayDef}
use Rattle.lucid_base.specs.declared.event.Event.{Event}
use Rattle.lucid_base.specs.declared.event.Out.{Out}
use Rattle.lucid_core.specs.Parts.{CoreParts}
use Rattle.lucid_core.specs.Step.{Entry, Steps, one_more, steps}
use Rattle.lucid_normal_spec.specs.Stands.{Happens}
use Rattle.lucid_pipe.specs.Laws.{MovesArePasses}
use Rattle.lucid_pipe.specs.Moves.{Flight, Move, enter, go, after_moves, enters, goes_on, moved, no_moves}
use Rattle.lucid_pipe.specs.Packets.{Packet}
use Rattle.lucid_pipe.specs.Pipe.{packet_at}
use Rattle.lucid_tables.specs.Placed.{PlacedParts}
use Rattle.lucid_tables.specs.Stages.{pass}
use Rattle.lucid_top_laws.specs.Moves.{MovesRunWhole, entries, entries_from, entry_if}
use Rattle.lucid_top_laws.specs.Packet.{RunsWhole}

abbrev Happening : CoreParts → Entry → Type 0
Happening core e = Happens core e.me e.event

module _ (placed : PlacedParts) (core : CoreParts) (runs : RunsWhole placed core) where
  -- the flight's whole passes come to the program's runs
  record Beside (f : Flight) (s : Steps) : Type 0 where
    pub of : f.pipe.placed ≡ placed
    pub cells : f.passes.cells ≡ s.cells
    pub outs : f.passes.outs ≡ s.outs

  -- one event more, in either
  enters_beside : (f : Flight) (s : Steps) (event : Event) (now me : ℕ) → Happens core me event → Beside f s →
      Beside (enters f event now me None) (one_more core s (record { now = now; me = me; event = event }))
  enters_beside f s event now me happens beside =
      let passed : (c : List (List ℕ)) → (pass f.pipe.placed.code f.pipe.placed.stages c now me event).cells ≡ (pass placed.code placed.stages c now me event).cells
      = λ c. ap (λ (q : PlacedParts). (pass q.code q.stages c now me event).cells) beside.of in
      let sent : (c : List (List ℕ)) → (pass f.pipe.placed.code f.pipe.placed.stages c now me event).outs ≡ (pass placed.code placed.stages c now me event).outs
      = λ c. ap (λ (q : PlacedParts). (pass q.code q.stages c now me event).outs) beside.of in
      record {
        of = beside.of;
        cells = ap (λ (c : List (List ℕ)). (pass f.pipe.placed.code f.pipe.placed.stages c now me event).cells) beside.cells ∙ passed s.cells ∙ runs.cells s.cells now me event happens;
        outs = ap₂ (λ (outs : List (List Out)) (c : List (List ℕ)). outs ++ (pass f.pipe.placed.code f.pipe.placed.stages c now me event).outs ∷ []) beside.outs beside.cells
            ∙ ap (λ (o : List Out). s.outs ++ o ∷ []) (sent s.cells ∙ runs.outs s.cells now me event happens);
      }

  -- a packet that goes on changes neither
  goes_beside : (f : Flight) (s : Steps) (k : ℕ) (here next : Option Packet) → Beside f s → Beside (goes_on f k here next) s
  goes_beside f s k None next beside = beside
  goes_beside f s k (Some p) (Some q) beside = beside
  goes_beside f s k (Some p) None beside = record { of = beside.of; cells = beside.cells; outs = beside.outs }

  -- and so whatever the moves behind it come to
  enter_beside : (moves : List Move) (f : Flight) (s : Steps) (event : Event) (now me : ℕ) (o : Option Packet) →
      ((g : Flight) (t : Steps) → All (Happening core) (entries_from g moves) → Beside g t → Beside (fold moved g moves) (fold (one_more core) t (entries_from g moves))) →
      All (Happening core) (entry_if o event now me ++ entries_from (enters f event now me o) moves) → Beside f s →
      Beside (fold moved (enters f event now me o) moves) (fold (one_more core) s (entry_if o event now me ++ entries_from (enters f event now me o) moves))
  enter_beside moves f s event now me (Some p) later happen beside = later f s happen beside
  enter_beside moves f s event now me None later happen beside =
      let e : Entry = record { now = now; me = me; event = event } in
      let rest = entries_from (enters f event now me None) moves in
      later (enters f event now me None) (one_more core s e) (All-tail (Happening core) e rest happen) (enters_beside f s event now me (All-head (Happening core) e rest happen) beside)

  all_beside : (moves : List Move) (f : Flight) (s : Steps) → All (Happening core) (entries_from f moves) → Beside f s → Beside (fold moved f moves) (fold (one_more core) s (entries_from f moves))
  all_beside [] f s happen beside = beside
  all_beside (enter event now me ∷ moves) f s happen beside =
      enter_beside moves f s event now me (packet_at f.pipe 0) (λ g t h b. all_beside moves g t h b) happen beside
  all_beside (go k ∷ moves) f s happen beside =
      all_beside moves (goes_on f k (packet_at f.pipe k) (packet_at f.pipe (k + 1))) s happen (goes_beside f s k (packet_at f.pipe k) (packet_at f.pipe (k + 1)) beside)

  pub moves_run : MovesArePasses placed → placed.code.arrays ≡ core.arrays → MovesRunWhole placed core
  moves_run law arrays = record {
    cells = λ moves happen. law.cells moves ∙ (beside moves happen).cells;
    outs = λ moves happen. law.outs moves ∙ (beside moves happen).outs;
  }
    where
      beside : (moves : List Move) → All (Happening core) (entries placed moves) → Beside (after_moves placed moves) (steps core (entries placed moves))
      beside moves happen = all_beside moves (no_moves placed) (record { cells = zero_cells core.arrays; outs = [] }) happen
          (record { of = refl; cells = ap (λ (a : List ArrayDef). zero_cells a) arrays; outs = refl })

-- Moves in any order have the effect of whole passes.
use Rattle.std.proofs.Common.{◌≡◌, ℕ, zero, suc, ◌+◌, List, [], ◌∷◌, ◌++◌, Option, None, Some, length, replicate, refl, sym, ap, ap₂, ◌∙◌, append_assoc}
use Rattle.std.specs.List.{fold}
use Rattle.std.proofs.lemmas.List.{length-set}
use Rattle.lucid_base.specs.declared.event.Event.{Event}
use Rattle.lucid_base.specs.declared.event.Out.{Out}
use Rattle.lucid_code.specs.Parts.{CodeParts}
use Rattle.lucid_tables.specs.Placed.{PlacedParts}
use Rattle.lucid_tables.specs.Stages.{pass}
use Rattle.lucid_tables.specs.declared.stage.StageCode.{StageCode}
use Rattle.lucid_pipe.specs.Laws.{MovesKeep, MovesArePasses}
use Rattle.lucid_pipe.specs.Moves.{Flight, Move, enter, go, no_moves, outs_left, enters, goes_on, moved}
use Rattle.lucid_pipe.specs.Packets.{Packet}
use Rattle.lucid_pipe.specs.Pipe.{packet_at, gone, comes_out}
use Rattle.lucid_pipe.specs.Settled.{Settled, settled_from, settled, with_left, with_pass}
use Rattle.lucid_pipe.specs.declared.passed.Passed.{Passed}

-- without packets a pipe is settled
none_settle : (code : CodeParts) (stages : List StageCode) (cells : List (List ℕ)) → settled_from code stages (replicate (length stages) None) cells ≡ record { cells = cells; outs = [] }
none_settle code [] cells = refl
none_settle code (s ∷ stages) cells = none_settle code stages cells

left_cells : (o : Option Passed) (rest : Settled) → (with_left o rest).cells ≡ rest.cells
left_cells None rest = refl
left_cells (Some p) rest = refl

left_outs : (o : Option Passed) (rest : Settled) → outs_left o ++ rest.outs ≡ (with_left o rest).outs
left_outs None rest = refl
left_outs (Some p) rest = refl

module _ (placed : PlacedParts) (law : MovesKeep placed) where
  pub record Kept (f : Flight) : Type 0 where
    pub of : f.pipe.placed ≡ placed
    pub long : length f.pipe.slots ≡ length placed.stages
    pub cells : (settled f.pipe).cells ≡ f.passes.cells
    pub outs : f.left ++ (settled f.pipe).outs ≡ f.passes.outs

  enters_keep : (f : Flight) (event : Event) (now me : ℕ) → Kept f → (o : Option Packet) → packet_at f.pipe 0 ≡ o → Kept (enters f event now me o)
  enters_keep f event now me kept (Some p) e = kept
  enters_keep f event now me kept None e =
      let one = law.enter f.pipe event now me kept.of kept.long e in
      let same = ap (λ (q : PlacedParts). with_pass q event now me (settled f.pipe)) (sym kept.of) in
      record {
        of = kept.of;
        long = length-set f.pipe.slots 0 _ ∙ kept.long;
        cells = ap (λ (s : Settled). s.cells) (one ∙ same) ∙ ap (λ (c : List (List ℕ)). (pass f.pipe.placed.code f.pipe.placed.stages c now me event).cells) kept.cells;
        outs = ap (λ (s : Settled). f.left ++ s.outs) (one ∙ same)
            ∙ sym (append_assoc f.left (settled f.pipe).outs ((pass f.pipe.placed.code f.pipe.placed.stages (settled f.pipe).cells now me event).outs ∷ []))
            ∙ ap₂ (λ (outs : List (List Out)) (c : List (List ℕ)). outs ++ (pass f.pipe.placed.code f.pipe.placed.stages c now me event).outs ∷ []) kept.outs kept.cells;
      }

  goes_keep : (f : Flight) (k : ℕ) → Kept f → (here next : Option Packet) → packet_at f.pipe k ≡ here → packet_at f.pipe (k + 1) ≡ next → Kept (goes_on f k here next)
  goes_keep f k kept None next e n = kept
  goes_keep f k kept (Some p) (Some q) e n = kept
  goes_keep f k kept (Some p) None e n =
      let one = law.go f.pipe k p kept.of kept.long e n in
      let out = comes_out f.pipe k p in
      let rest = settled (gone f.pipe k p) in
      record {
        of = kept.of;
        long = length-set _ (k + 1) _ ∙ length-set f.pipe.slots k None ∙ kept.long;
        cells = sym (left_cells out rest) ∙ sym (ap (λ (s : Settled). s.cells) one) ∙ kept.cells;
        outs = append_assoc f.left (outs_left out) rest.outs ∙ ap (λ (l : List (List Out)). f.left ++ l) (left_outs out rest ∙ sym (ap (λ (s : Settled). s.outs) one)) ∙ kept.outs;
      }

  moved_keeps : (f : Flight) (m : Move) → Kept f → Kept (moved f m)
  moved_keeps f (enter event now me) kept = enters_keep f event now me kept (packet_at f.pipe 0) refl
  moved_keeps f (go k) kept = goes_keep f k kept (packet_at f.pipe k) (packet_at f.pipe (k + 1)) refl refl

  all_keep : (moves : List Move) (f : Flight) → Kept f → Kept (fold moved f moves)
  all_keep [] f kept = kept
  all_keep (m ∷ moves) f kept = all_keep moves (moved f m) (moved_keeps f m kept)

  begins : Kept (no_moves placed)
  begins =
      let none = none_settle placed.code placed.stages (no_moves placed).pipe.cells in
      record {
        of = refl;
        long = long (length placed.stages);
        cells = ap (λ (s : Settled). s.cells) none;
        outs = ap (λ (s : Settled). s.outs) none;
      }
    where
      long : (n : ℕ) → length (replicate {A = Option Packet} n None) ≡ n
      long zero = refl
      long (suc n) = ap suc (long n)

  pub passes : MovesArePasses placed
  passes = record {
    cells = λ moves. (all_keep moves (no_moves placed) begins).cells;
    outs = λ moves. (all_keep moves (no_moves placed) begins).outs;
  }

-- A snapshot that is taken while packets move in any order.
use Rattle.std.proofs.Common.{◌≡◌, ◌∙◌, ℕ, zero, suc, ◌+◌, ◌<◌, List, [], ◌∷◌, Option, None, Some, Bool, true, false, ◌&&◌, if◌then◌else◌, length, replicate, nat_eq, slice_index_or, refl, sym, ap, arith}
use Rattle.std.specs.List.{fold}
use Rattle.std.proofs.lemmas.List.{length-set}
use Rattle.lucid_base.specs.Cells.{row_of}
use Rattle.lucid_base.specs.declared.event.Event.{Event}
use Rattle.lucid_core.specs.Parts.{CoreParts}
use Rattle.lucid_drive.specs.Changes.{Moved}
use Rattle.lucid_pipe.specs.Moves.{Flight, Move, enter, go, after_moves, enters, goes_on, moved, no_moves}
use Rattle.lucid_pipe.specs.Packets.{Packet}
use Rattle.lucid_pipe.specs.Pipe.{PipeParts, entered, executed, gone, packet_at, sizes}
use Rattle.lucid_pipe.specs.Settled.{settled}
use Rattle.lucid_pipe.proofs.Beside.{same_cells}
use Rattle.lucid_pipe.proofs.Idle.{idle_stays}
use Rattle.lucid_pipe.proofs.Sizes.{made_sizes}
use Rattle.lucid_snap.specs.Calls.{HasPassed}
use Rattle.lucid_snap.specs.Snap.{Follows, SnapParts}
use Rattle.lucid_snap.proofs.Following.{Facts, Fixed}
use Rattle.lucid_snap.proofs.Passing as passing
use Rattle.lucid_tables.specs.Numbers.{is_in}
use Rattle.lucid_tables.specs.Placed.{PlacedParts}
use Rattle.lucid_top_laws.specs.Moves.{MovesRunWhole}
use Rattle.lucid_top_laws.specs.Snapshots.{SnapshotsRunWhole, begun, copied_from, passed, snap_from, snap_goes, snap_moved}

abbrev Cells : Type 0
Cells = List (List ℕ)

-- ---- the copied rows

same_head : (c r : List ℕ) (cells rows : Cells) → sizes (r ∷ rows) ≡ sizes (c ∷ cells) → length r ≡ length c
same_head c r cells rows same = cc

same_tail : (c r : List ℕ) (cells rows : Cells) → sizes (r ∷ rows) ≡ sizes (c ∷ cells) → sizes rows ≡ sizes cells
same_tail c r cells rows same = cc

none_more : {A : Type 0} (c : List ℕ) (cells : Cells) → sizes [] ≡ sizes (c ∷ cells) → A
none_more c cells same = absurd (cc)

none_less : {A : Type 0} (r : List ℕ) (rows : Cells) → sizes (r ∷ rows) ≡ sizes [] → A
none_less r rows same = absurd (cc)

one_long : (b : Bool) (c r : List ℕ) → length r ≡ length c → length (if b then c else r) ≡ length r
one_long true c r same = sym same
one_long false c r same = refl

copied_sizes : (arrays : List ℕ) (n : ℕ) (cells rows : Cells) → sizes rows ≡ sizes cells → sizes (copied_from arrays n cells rows) ≡ sizes rows
copied_sizes arrays n [] [] same = refl
copied_sizes arrays n (c ∷ cells) [] same = refl
copied_sizes arrays n [] (r ∷ rows) same = refl
copied_sizes arrays n (c ∷ cells) (r ∷ rows) same =
    ap (λ (k : ℕ). k ∷ sizes (copied_from arrays (suc n) cells rows)) (one_long (is_in n arrays) c r (same_head c r cells rows same))
    ∙ ap (λ (ks : List ℕ). length r ∷ ks) (copied_sizes arrays (suc n) cells rows (same_tail c r cells rows same))

neither : (b : Bool) → ◌≡◌ {A = List ℕ} [] (if b then [] else [])
neither true = refl
neither false = refl

copied_rows : (arrays : List ℕ) (n : ℕ) (cells rows : Cells) (g : ℕ) → sizes rows ≡ sizes cells →
    row_of (copied_from arrays n cells rows) g ≡ (if is_in (n + g) arrays then row_of cells g else row_of rows g)
copied_rows arrays n [] [] g same = neither (is_in (n + g) arrays)
copied_rows arrays n (c ∷ cells) [] g same = none_more c cells same
copied_rows arrays n [] (r ∷ rows) g same = none_less r rows same
copied_rows arrays n (c ∷ cells) (r ∷ rows) zero same =
    let is : n ≡ n + 0 = omega arith in
    ap (λ (k : ℕ). if is_in k arrays then c else r) is
copied_rows arrays n (c ∷ cells) (r ∷ rows) (suc g) same =
    let is : suc n + g ≡ n + suc g = omega arith in
    copied_rows arrays (suc n) cells rows g (same_tail c r cells rows same)
    ∙ ap (λ (k : ℕ). if is_in k arrays then row_of cells g else row_of rows g) is

has_passed : (snap : SnapParts) (pipe : PipeParts) (k : ℕ) → sizes snap.copies ≡ sizes pipe.cells → HasPassed snap pipe k (passed snap pipe k)
has_passed snap pipe k same = record {
  stages = refl;
  copied = refl;
  old = refl;
  sizes = long (nat_eq k snap.copied);
  rows = λ g. row (nat_eq k snap.copied) g;
}
  where
    long : (b : Bool) → sizes (if b then copied_from (slice_index_or snap.stages k []) 0 pipe.cells snap.copies else snap.copies) ≡ sizes snap.copies
    long true = copied_sizes (slice_index_or snap.stages k []) 0 pipe.cells snap.copies same
    long false = refl

    row : (b : Bool) (g : ℕ) → row_of (if b then copied_from (slice_index_or snap.stages k []) 0 pipe.cells snap.copies else snap.copies) g
        ≡ (if b && is_in g (slice_index_or snap.stages k []) then row_of pipe.cells g else row_of snap.copies g)
    row true g =
        let is : 0 + g ≡ g = omega arith in
        copied_rows (slice_index_or snap.stages k []) 0 pipe.cells snap.copies g same ∙ ap (λ (j : ℕ). if is_in j (slice_index_or snap.stages k []) then row_of pipe.cells g else row_of snap.copies g) is
    row false g = refl

-- ---- what every pipe keeps

entered_facts : (pipe : PipeParts) (event : Event) (now me : ℕ) → Facts pipe → Facts (entered pipe event now me)
entered_facts pipe event now me facts = record {
  fixed = facts.fixed;
  idle = facts.idle;
  sized = facts.sized;
  long = length-set pipe.slots 0 _ ∙ facts.long;
}

gone_facts : (pipe : PipeParts) (k : ℕ) (p : Packet) → Facts pipe → Facts (gone pipe k p)
gone_facts pipe k p facts = record {
  fixed = facts.fixed;
  idle = λ g none. idle_stays pipe.placed.code pipe.placed.stages pipe.cells (executed pipe k p).cells k g p facts.fixed.arrays none refl ∙ facts.idle g none;
  sized = made_sizes pipe.placed.code pipe.placed.stages pipe.cells k p ∙ facts.sized;
  long = length-set _ (k + 1) _ ∙ length-set pipe.slots k None ∙ facts.long;
}

long_none : (n : ℕ) → length (replicate {A = Option Packet} n None) ≡ n
long_none zero = refl
long_none (suc n) = ap suc (long_none n)

module _ (placed : PlacedParts) (fixed : Fixed placed) (some : 0 < length placed.stages) where
  record Kept (f : Flight) : Type 0 where
    pub of : f.pipe.placed ≡ placed
    pub facts : Facts f.pipe

  some_slots : (f : Flight) → Kept f → 0 < length f.pipe.slots
  some_slots f kept =
      let long : length f.pipe.slots ≡ length placed.stages = kept.facts.long ∙ ap (λ (q : PlacedParts). length q.stages) kept.of in
      omega (arith, long, some)

  enters_keep : (f : Flight) (event : Event) (now me : ℕ) → Kept f → (o : Option Packet) → Kept (enters f event now me o)
  enters_keep f event now me kept (Some p) = kept
  enters_keep f event now me kept None = record { of = kept.of; facts = entered_facts f.pipe event now me kept.facts }

  goes_keep : (f : Flight) (k : ℕ) → Kept f → (here next : Option Packet) → Kept (goes_on f k here next)
  goes_keep f k kept None next = kept
  goes_keep f k kept (Some p) (Some q) = kept
  goes_keep f k kept (Some p) None = record { of = kept.of; facts = gone_facts f.pipe k p kept.facts }

  moved_keeps : (f : Flight) (m : Move) → Kept f → Kept (moved f m)
  moved_keeps f (enter event now me) kept = enters_keep f event now me kept (packet_at f.pipe 0)
  moved_keeps f (go k) kept = goes_keep f k kept (packet_at f.pipe k) (packet_at f.pipe (k + 1))

  all_keep : (moves : List Move) (f : Flight) → Kept f → Kept (fold moved f moves)
  all_keep [] f kept = kept
  all_keep (m ∷ moves) f kept = all_keep moves (moved f m) (moved_keeps f m kept)

  begins_kept : Kept (no_moves placed)
  begins_kept = record {
    of = refl;
    facts = record { fixed = fixed; idle = λ g none. refl; sized = refl; long = long_none (length placed.stages) };
  }

  -- ---- the snapshot follows

  enter_follows : (f : Flight) (snap : SnapParts) (cells : Cells) (event : Event) (now me : ℕ) → Kept f → Follows snap f.pipe cells → (o : Option Packet) → packet_at f.pipe 0 ≡ o →
      Follows snap (enters f event now me o).pipe cells
  enter_follows f snap cells event now me kept follows (Some p) is = follows
  enter_follows f snap cells event now me kept follows None is = passing.enters f.pipe snap cells event now me follows is (some_slots f kept)

  go_follows : (f : Flight) (snap : SnapParts) (cells : Cells) (k : ℕ) → Kept f → Follows snap f.pipe cells → (here next : Option Packet) → packet_at f.pipe k ≡ here → packet_at f.pipe (k + 1) ≡ next →
      Follows (snap_goes f.pipe snap k here next) (goes_on f k here next).pipe cells
  go_follows f snap cells k kept follows None next is then_is = follows
  go_follows f snap cells k kept follows (Some p) (Some q) is then_is = follows
  go_follows f snap cells k kept follows (Some p) None is then_is =
      let did : Moved f.pipe k p (gone f.pipe k p) = record { here = is; next = then_is; is = refl } in
      let sized : sizes snap.copies ≡ sizes (gone f.pipe k p).cells = follows.sizes ∙ sym (gone_facts f.pipe k p kept.facts).sized in
      passing.passes f.pipe (gone f.pipe k p) snap (passed snap (gone f.pipe k p) k) cells k p did follows kept.facts.fixed (has_passed snap (gone f.pipe k p) k sized)

  moved_follows : (f : Flight) (snap : SnapParts) (cells : Cells) (m : Move) → Kept f → Follows snap f.pipe cells → Follows (snap_moved f.pipe snap m) (moved f m).pipe cells
  moved_follows f snap cells (enter event now me) kept follows = enter_follows f snap cells event now me kept follows (packet_at f.pipe 0) refl
  moved_follows f snap cells (go k) kept follows = go_follows f snap cells k kept follows (packet_at f.pipe k) (packet_at f.pipe (k + 1)) refl refl

  -- and holds the cells once it waits for no packet
  whole_holds : (snap : SnapParts) (pipe : PipeParts) (cells : Cells) → Follows snap pipe cells → snap.old ≡ 0 → snap.copies ≡ cells
  whole_holds snap pipe cells follows none = same_cells snap.copies cells (sym follows.given) (λ g. passing.whole_is snap pipe cells g follows none)

  all_follow : (moves : List Move) (f : Flight) (snap : SnapParts) (cells : Cells) → Kept f → Follows snap f.pipe cells →
      (snap_from f snap moves).old ≡ 0 → (snap_from f snap moves).copies ≡ cells
  all_follow [] f snap cells kept follows none = whole_holds snap f.pipe cells follows none
  all_follow (m ∷ moves) f snap cells kept follows none =
      all_follow moves (moved f m) (snap_moved f.pipe snap m) cells (moved_keeps f m kept) (moved_follows f snap cells m kept follows) none

  pub snapshots_run : (core : CoreParts) → MovesRunWhole placed core → SnapshotsRunWhole placed core
  snapshots_run core moves first later happen none =
      let f = after_moves placed first in
      let kept : Kept f = all_keep first (no_moves placed) begins_kept in
      all_follow later f (begun f.pipe) (settled f.pipe).cells kept (passing.begins f.pipe (begun f.pipe) kept.facts refl refl refl refl) none
      ∙ moves.cells first happen

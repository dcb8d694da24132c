-- A drive that a snapshot follows: what is left of its log, and that the snapshot follows through its calls.
use Rattle.std.proofs.Common.{◌≡◌, ℕ, zero, suc, ◌+◌, ◌<◌, ◌≤◌, List, [], ◌∷◌, ◌++◌, Option, None, Some, inl, inr, drop, length, min, slice_get, take, refl, sym, ◌∙◌, ap, subst, append_assoc, drop_of_length-le, arith}
use Rattle.std.proofs.lemmas.List.{take_min}
use Rattle.std.specs.Option.{option_and_then}
use Rattle.lucid_base.specs.Cells.{zero_cells}
use Rattle.lucid_conf.specs.declared.scene.Scene.{Scene}
use Rattle.lucid_conf.specs.declared.scene.Step.{Step}
use Rattle.lucid_core.specs.Parts.{CoreParts}
use Rattle.lucid_io.proofs.Leaves.{Leaves-after, Leaves-nothing, Leaves-whole, PutsPart-at}
use Rattle.lucid_io.specs.Puts.{Leaves, PutsAll, PutsPart}
use Rattle.lucid_pipe.specs.Packets.{Packet}
use Rattle.lucid_pipe.specs.Pipe.{PipeParts, sizes}
use Rattle.lucid_pipe.proofs.Beside.{same_cells}
use Rattle.lucid_drive.specs.Changes.{Changes, Moved}
use Rattle.lucid_drive.specs.Drive.{Drive, Progress, after_steps, begun, does, drive_log, end_text, progress_from, text_from}
use Rattle.lucid_drive.specs.Standing.{drive_of}
use Rattle.lucid_drive.specs.State.{IsEmpty, StandsAfter, progress_at, step_at, text_to}
use Rattle.lucid_drive.specs.declared.state.DriveState.{DriveState}
use Rattle.lucid_drive.proofs.Running.{drive_same, text_next}
use Rattle.lucid_snap.specs.Log.{entered_by, log_after, snap_log, snap_text}
use Rattle.lucid_snap.specs.Snap.{Follows, FollowsSome, KeepsFollowing, SnapParts, many}
use Rattle.lucid_snap.proofs.Passing.{enters, whole_is}

-- ---- what is left of the log

text_split : (d : Drive) (p : Progress) (n : ℕ) (xs : List Step) → text_from d p xs ≡ text_from d p (take n xs) ++ text_from d (progress_from d p (take n xs)) (drop n xs)
text_split d p zero xs = refl
text_split d p (suc n) [] = refl
text_split d p (suc n) (s ∷ xs) =
    ap (λ (l : List ℕ). (does d p s).text ++ l) (text_split d (does d p s).progress n xs)
    ∙ sym (append_assoc (does d p s).text (text_from d (does d p s).progress (take n xs)) (text_from d (progress_from d (does d p s).progress (take n xs)) (drop n xs)))

-- The log in two parts.
log_split : (d : Drive) (n : ℕ) → drive_log d ≡ text_to d n ++ log_after d n
log_split d n =
    ap (λ (l : List ℕ). l ++ end_text d (after_steps d)) (text_split d (begun d) n d.scene.steps)
    ∙ append_assoc (text_to d n) (text_from d (progress_at d n 0) (drop n d.scene.steps)) (end_text d (after_steps d))

pub first_part : (d : Drive) (n after : ℕ) → snap_log d after ≡ text_to d n ++ (log_after d n ++ snap_text d (entered_by d after))
first_part d n after = ap (λ (l : List ℕ). l ++ snap_text d (entered_by d after)) (log_split d n) ∙ append_assoc (text_to d n) (log_after d n) (snap_text d (entered_by d after))

pub same_entered : (d : Drive) (after : ℕ) → (progress_at d (min after (length d.scene.steps)) 0).entered ≡ entered_by d after
same_entered d after = ap (λ (xs : List Step). (progress_from d (begun d) xs).entered) (take_min after d.scene.steps)

-- ---- the snapshot follows

pub keeps_unmoved : (before after : PipeParts) (snap : SnapParts) → Changes before None after → KeepsFollowing snap before snap after
keeps_unmoved before after snap (inl same) = λ cells f. subst (λ (q : PipeParts). Follows snap q cells) (sym same) f
keeps_unmoved before after snap (inr came) = λ cells f. subst (λ (q : PipeParts). Follows snap q cells) (sym came.is) (enters before snap cells came.event came.tick came.me f came.free came.some)

many_none : (slots : List (Option Packet)) → ((k : ℕ) → option_and_then (λ slot. slot) (slice_get slots k) ≡ None) → many slots ≡ 0
many_none [] none = refl
many_none (None ∷ slots) none = many_none slots (λ k. none (suc k))
many_none (Some p ∷ slots) none = let no : ◌≡◌ {A = Option Packet} (Some p) None = none 0 in cc

-- Once no packet is in flight, it holds the cells that it is followed for.
pub whole_copies : (snap : SnapParts) (pipe : PipeParts) (cells : List (List ℕ)) → IsEmpty pipe → Follows snap pipe cells → snap.copies ≡ cells
whole_copies snap pipe cells empty f =
    let none : many pipe.slots ≡ 0 = many_none pipe.slots empty in
    same_cells snap.copies cells (sym f.given) (λ g. whole_is snap pipe cells g f (omega (arith, f.enough, none)))

-- ---- the steps that are left

-- So many steps are done, of them `from` before.
pub record Trailing {T : Type 0} (written : T → Option (List ℕ)) (faults : T → ℕ) (old now : T) (parts : CoreParts) (scene : Scene) (start pipe : PipeParts) (state : DriveState) (first snap : SnapParts) (from n : ℕ) : Type 0 where
  pub same : pipe.placed ≡ start.placed
  pub done : state.done ≡ n
  pub at : StandsAfter parts scene state 0 pipe
  pub text : Leaves written faults old now (text_from (drive_of parts start scene) (progress_at (drive_of parts start scene) from 0) (drop from scene.steps)) (text_from (drive_of parts start scene) (progress_at (drive_of parts start scene) n 0) (drop n scene.steps))
  pub follows : KeepsFollowing first start snap pipe

pub trailing_first : {T : Type 0} (written : T → Option (List ℕ)) (faults : T → ℕ) (sink : T) (parts : CoreParts) (scene : Scene) (start : PipeParts) (state : DriveState) (snap : SnapParts) (n : ℕ) → n ≡ state.done → StandsAfter parts scene state 0 start →
    Trailing written faults sink sink parts scene start start state snap snap state.done n
trailing_first written faults sink parts scene start state snap n is at = record {
  same = refl;
  done = sym is;
  at = at;
  text = subst (λ (m : ℕ). Leaves written faults sink sink (text_from (drive_of parts start scene) (progress_at (drive_of parts start scene) state.done 0) (drop state.done scene.steps)) (text_from (drive_of parts start scene) (progress_at (drive_of parts start scene) m 0) (drop m scene.steps))) (sym is) Leaves-whole;
  follows = λ cells f. f;
}

module _ {T : Type 0} {written : T → Option (List ℕ)} {faults : T → ℕ} (old now : T) (parts : CoreParts) (scene : Scene) (start pipe : PipeParts) (state : DriveState) (first snap : SnapParts) (from n : ℕ)
    (lt : n < length scene.steps) (so : Trailing written faults old now parts scene start pipe state first snap from n) where
  -- What the step writes.
  pub trail_text : (step_at (drive_of parts pipe scene) state.done).text ≡ (step_at (drive_of parts start scene) n).text
  trail_text = ap (λ (e : Drive). (step_at e state.done).text) (drive_same parts scene pipe start so.same) ∙ ap (λ (m : ℕ). (step_at (drive_of parts start scene) m).text) so.done

  pub trail_left : text_from (drive_of parts start scene) (progress_at (drive_of parts start scene) n 0) (drop n scene.steps)
      ≡ (step_at (drive_of parts start scene) n).text ++ text_from (drive_of parts start scene) (progress_at (drive_of parts start scene) (n + 1) 0) (drop (n + 1) scene.steps)
  trail_left = text_next (drive_of parts start scene) scene.steps n lt lt refl

  pub trailing_cut : (new : T) → PutsPart written faults now new (step_at (drive_of parts pipe scene) state.done).text →
      PutsPart written faults old new (text_from (drive_of parts start scene) (progress_at (drive_of parts start scene) from 0) (drop from scene.steps))
  trailing_cut new cut =
      PutsPart-at (text_from (drive_of parts start scene) (progress_at (drive_of parts start scene) (n + 1) 0) (drop (n + 1) scene.steps)) so.text (subst (PutsPart written faults now new) trail_text cut) trail_left

  pub trail_below : state.done < length scene.steps
  trail_below = omega (arith, lt, so.done)

  pub trailing_next : (new : T) (then_pipe : PipeParts) (then_state : DriveState) (then_snap : SnapParts) → then_pipe.placed ≡ pipe.placed → then_state.done ≡ state.done + 1 → StandsAfter parts scene then_state 0 then_pipe →
      PutsAll written faults now new (step_at (drive_of parts pipe scene) state.done).text → KeepsFollowing snap pipe then_snap then_pipe →
      Trailing written faults old new parts scene start then_pipe then_state first then_snap from (n + 1)
  trailing_next new then_pipe then_state then_snap same done at puts follows = record {
    same = same ∙ so.same;
    done = done ∙ ap (λ (m : ℕ). m + 1) so.done;
    at = at;
    text = Leaves-after so.text (subst (PutsAll written faults now new) trail_text puts) trail_left;
    follows = λ cells f. follows cells (so.follows cells f);
  }

pub trailing_all : {T : Type 0} {written : T → Option (List ℕ)} {faults : T → ℕ} {old now : T} (parts : CoreParts) (scene : Scene) (start pipe : PipeParts) (state : DriveState) (first snap : SnapParts) (from n : ℕ) → length scene.steps ≤ n →
    Trailing written faults old now parts scene start pipe state first snap from n →
    PutsAll written faults old now (text_from (drive_of parts start scene) (progress_at (drive_of parts start scene) from 0) (drop from scene.steps))
trailing_all parts scene start pipe state first snap from n le so =
    Leaves-nothing so.text (ap (text_from (drive_of parts start scene) (progress_at (drive_of parts start scene) n 0)) (drop_of_length-le scene.steps le))

pub follows_some : (first snap : SnapParts) (start pipe : PipeParts) → KeepsFollowing first start snap pipe → FollowsSome first start → FollowsSome snap pipe
follows_some first snap start pipe keeps some = (some.0, keeps some.0 some.1)

-- A packet moved, by the answer of a call.
pub moved_by : (before after : PipeParts) (moved : Option ℕ) (k : ℕ) → moved ≡ Some k → Changes before moved after → (p : Packet) × Moved before k p after
moved_by before after moved k is c = subst (λ (o : Option ℕ). Changes before o after) is c

pub unmoved : (first snap : SnapParts) (start pipe after : PipeParts) → KeepsFollowing first start snap pipe → after ≡ pipe → KeepsFollowing first start snap after
unmoved first snap start pipe after keeps same = λ cells f. subst (λ (q : PipeParts). Follows snap q cells) (sym same) (keeps cells f)

-- The rows of the snapshot are as long as those of the pipe.
pub sized_alike : (snap : SnapParts) (before after : PipeParts) (k : ℕ) (p : Packet) → Moved before k p after → FollowsSome snap before → sizes after.cells ≡ sizes (zero_cells after.placed.code.arrays) → sizes snap.copies ≡ sizes after.cells
sized_alike snap before after k p moved some sized = some.1.sizes ∙ sym (sized ∙ ap (λ (q : PipeParts). sizes (zero_cells q.placed.code.arrays)) moved.is)

pub keeps_none : (before after : PipeParts) (snap : SnapParts) (moved : Option ℕ) → moved ≡ None → Changes before moved after → KeepsFollowing snap before snap after
keeps_none before after snap moved none c = keeps_unmoved before after snap (subst (λ (o : Option ℕ). Changes before o after) none c)

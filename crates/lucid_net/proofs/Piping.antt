-- The turn of a switch with a pipe, by the network whose events run whole.
use Rattle.std.proofs.Common.{◌≡◌, ℕ, zero, suc, ◌+◌, ◌-◌, ◌*◌, ◌^◌, ◌<◌, ◌≤◌, ◌⊎◌, inl, inr, List, [], ◌∷◌, length, get_or, set, map, Option, None, Some, IfSome, Result, Ok, Err, OnOk, true, refl, sym, ◌∙◌, ap, subst, add-one, arith}
use Rattle.std.proofs.lemmas.Bool.{cases_lt}
use Rattle.std.proofs.lemmas.Bool.Decides.{nat_tests}
use Rattle.std.proofs.lemmas.List.{length-map}
use Rattle.std.specs.List.{AllByRecursion, find, list_all}
use Rattle.lucid_code.specs.Inputs.{IsInput}
use Rattle.lucid_net_laws.proofs.Behind.{stays_behind}
use Rattle.lucid_net_laws.proofs.Bounds.{most_entered, most_lost}
use Rattle.lucid_net_laws.proofs.Fitting.{all_fit}
use Rattle.lucid_net_laws.proofs.Flying.{flying_next, keeps_flying, leaves_run, leaving_early}
use Rattle.lucid_net_laws.proofs.Leavers.{Entered, leaving_run, picture_long}
use Rattle.lucid_net_laws.proofs.Whole.{clock_self, clock_start}
use Rattle.lucid_net_laws.specs.Behind.{TurnBehind}
use Rattle.lucid_net_laws.specs.Fitting.{fits}
use Rattle.lucid_net_laws.specs.Flying.{Flying, IsFlying, flying_turn, one_if, packet_for}
use Rattle.lucid_net_laws.specs.Runs.{leaving, losses_by, made_by}
use Rattle.lucid_net_laws.specs.Stages.{fed}
use Rattle.lucid_net_spec.proofs.Passing.{without_passes}
use Rattle.lucid_net_spec.specs.Log.{put_all, ticks, turns}
use Rattle.lucid_net_spec.specs.Ways.{Network, Run}
use Rattle.lucid_net_laws.specs.Does.{IsGood}
use Rattle.lucid_net_laws.specs.Rows.{Cells, Rows, first_cells, rows_in, step_of, with_rows}
use Rattle.lucid_net_laws.specs.PipeStages.{stages_of}
use Rattle.lucid_pipe.specs.Packets.{Packet}
use Rattle.lucid_pipe.specs.Pipe.{PipeParts}
use Rattle.lucid_pipe_laws.specs.Moves.{advance, entered_by}
use Rattle.lucid_pipe_laws.specs.Stream.{picture}
use Rattle.lucid_queue.specs.Waiting.{is_ready, without_first}
use Rattle.lucid_queue.specs.declared.pending.Pending.{Pending}
use Rattle.lucid_tables.specs.Placed.{PlacedParts}
use Rattle.lucid_net.specs.Kept.{is_kept}
use Rattle.lucid_net.specs.Leaving.{Fits, KeptAfter, KeptBefore, left, waits}
use Rattle.lucid_net.specs.Pipes.{IsPiped, IsReady, Piped, flying_of, kept_from}
use Rattle.lucid_net.specs.Rows.{IsOf, pipe_at}
use Rattle.lucid_net.proofs.Keeping.{kept_switch, kept_tick}

-- ---- lists of pipes

module _ {A : Type 0} where
  pub all_get : (P : A → Type 0) (xs : List A) (k : ℕ) (d : A) → AllByRecursion P xs → k < length xs → P (get_or xs k d)
  all_get P [] k d all lt = absurd (omega (arith, lt))
  all_get P (x ∷ xs) zero d all lt = all.0
  all_get P (x ∷ xs) (suc k) d all lt = all_get P xs k d all.1 (omega (arith, lt))

  pub all_set : (P : A → Type 0) (xs : List A) (k : ℕ) (x : A) → AllByRecursion P xs → P x → AllByRecursion P (set xs k x)
  all_set P [] k x all here = tt
  all_set P (y ∷ ys) zero x all here = (here, all.1)
  all_set P (y ∷ ys) (suc k) x all here = (all.0, all_set P ys k x all.1 here)

module _ {A B : Type 0} where
  pub map_set : (f : A → B) (xs : List A) (k : ℕ) (x : A) → map f (set xs k x) ≡ set (map f xs) k (f x)
  map_set f [] k x = refl
  map_set f (y ∷ ys) zero x = refl
  map_set f (y ∷ ys) (suc k) x = ap (λ (l : List B). f y ∷ l) (map_set f ys k x)

  pub map_get : (f : A → B) (xs : List A) (k : ℕ) (x : A) (d : B) → k < length xs → x ≡ get_or xs k x → get_or (map f xs) k d ≡ f x
  map_get f [] k x d lt is = absurd (omega (arith, lt))
  map_get f (y ∷ ys) zero x d lt is = ap f (sym is)
  map_get f (y ∷ ys) (suc k) x d lt is = map_get f ys k x d (omega (arith, lt)) is

-- ---- the inputs of a turn

-- the rows of the switch, as the definition has them
abbrev pub RowsAre : Network → PlacedParts → ℕ → ℕ → Rows → Type 0
RowsAre net placed tick switch rows = rows ≡ picture (step_of placed) (first_cells placed) (fed net (stages_of placed) switch) tick

pub rows_at : (net : Network) (placed : PlacedParts) (tick switch : ℕ) (now : Piped) (p : PipeParts) → switch < net.scene.switches → IsPiped net placed tick switch now →
    p ≡ get_or now.pipes switch p → RowsAre net placed tick switch (rows_in p)
rows_at net placed tick switch now p lt is here =
    sym (map_get (λ (q : PipeParts). (rows_in q)) now.pipes switch p [] within here)
    ∙ is.flying.pipes switch lt ∙ ap (picture (step_of placed) (first_cells placed) (fed net (stages_of placed) switch)) (clock_self tick switch)
  where
    within : switch < length now.pipes
    within = omega (arith, lt, is.flying.long, length-map now.pipes (λ (q : PipeParts). (rows_in q)))

pub pipe_within : (net : Network) (placed : PlacedParts) (tick switch : ℕ) (now : Piped) → switch < net.scene.switches → IsPiped net placed tick switch now → switch < length now.pipes
pipe_within net placed tick switch now lt is = omega (arith, lt, is.flying.long, length-map now.pipes (λ (q : PipeParts). (rows_in q)))

pub placed_at : (net : Network) (placed : PlacedParts) (tick switch : ℕ) (now : Piped) (p : PipeParts) → switch < net.scene.switches → IsPiped net placed tick switch now →
    p ≡ get_or now.pipes switch p → p.placed ≡ placed
placed_at net placed tick switch now p lt is here =
    ap (λ (q : PipeParts). q.placed) (subst (IsOf placed) (sym here) (all_get (IsOf placed) now.pipes switch p is.same (pipe_within net placed tick switch now lt is)))

pub rows_some : (net : Network) (placed : PlacedParts) (tick switch : ℕ) (rows : Rows) → IsReady net placed → RowsAre net placed tick switch rows → 0 < length rows
rows_some net placed tick switch rows ready are =
    subst (λ (n : ℕ). 0 < n) (sym (ap (λ (l : Rows). length l) are ∙ picture_long (step_of placed) (first_cells placed) (fed net (stages_of placed) switch) tick ∙ ready.sound.long)) ready.sound.some

pub left_is : (net : Network) (placed : PlacedParts) (tick switch : ℕ) (rows : Rows) → IsReady net placed → switch < net.scene.switches → RowsAre net placed tick switch rows →
    left placed rows ≡ leaving net net.limits.stages switch tick
left_is net placed tick switch rows ready lt are = leaves_run net (stages_of placed) (IsGood placed net.parts) (fits net.parts) tick switch rows ready.sound lt are

pub left_fits : (net : Network) (placed : PlacedParts) (tick switch : ℕ) (rows : Rows) → IsReady net placed → switch < net.scene.switches → RowsAre net placed tick switch rows →
    IfSome (left placed rows) (Fits net.parts)
left_fits net placed tick switch rows ready lt are =
    subst (λ (o : Option Run). IfSome o (Fits net.parts)) (sym (left_is net placed tick switch rows ready lt are))
    (at (leaving net net.limits.stages switch tick) (leaving_run net net.limits.stages switch tick ready.file ready.sends))
  where
    at : (o : Option Run) → IfSome o (λ r. (net.limits.stages ≤ tick) × Entered net switch (tick - net.limits.stages) r) → IfSome o (Fits net.parts)
    at None is = tt
    at (Some r) is = record { event = is.1.event; outs = is.1.outs }

from_late : (stages tick switch : ℕ) → stages ≤ tick → kept_from stages tick switch ≡ switch
from_late stages tick switch le = grind (arith, nat_tests)

from_early : (stages tick switch : ℕ) → tick < stages → kept_from stages tick switch ≡ 0
from_early stages tick switch lt = grind (arith, nat_tests)

pub left_kept : (net : Network) (placed : PlacedParts) (tick switch : ℕ) (now : Piped) (rows : Rows) → IsReady net placed → switch < net.scene.switches → RowsAre net placed tick switch rows →
    IsPiped net placed tick switch now → IfSome (left placed rows) (λ run. KeptBefore net.parts run now.pending)
left_kept net placed tick switch now rows ready lt are is =
    subst (λ (o : Option Run). IfSome o (λ run. KeptBefore net.parts run now.pending)) (sym (left_is net placed tick switch rows ready lt are))
    (at (leaving net net.limits.stages switch tick) (leaving_run net net.limits.stages switch tick ready.file ready.sends))
  where
    at : (o : Option Run) → IfSome o (λ r. (net.limits.stages ≤ tick) × Entered net switch (tick - net.limits.stages) r) → IfSome o (λ run. KeptBefore net.parts run now.pending)
    at None so = tt
    at (Some r) so =
        subst (λ (t : ℕ). list_all (is_kept net.parts t r.switch 0) now.pending ≡ true) (sym so.1.tick)
        (subst (λ (s : ℕ). list_all (is_kept net.parts (tick - net.limits.stages) s 0) now.pending ≡ true) (from_late net.limits.stages tick switch so.0 ∙ sym so.1.switch) is.kept)

-- the entering event is an input
pub comes_input : (net : Network) (placed : PlacedParts) (tick switch : ℕ) (now : Piped) (rows : Rows) → IsReady net placed → switch < net.scene.switches → tick < net.scene.stop →
    RowsAre net placed tick switch rows → IsPiped net placed tick switch now →
    IfSome (find (is_ready switch tick) (waits net placed rows now.pending)) (λ p. IsInput placed.code switch p.event)
comes_input net placed tick switch now rows ready lt before are is =
    subst (λ (o : Option Pending). IfSome o (λ p. IsInput placed.code switch p.event)) (sym behind.enters)
    (at (find (is_ready switch tick) (turns net tick switch (ticks net tick)).pending) (all_fit net ready.file ready.sends tick switch))
  where
    behind : TurnBehind net tick switch (waits net placed rows now.pending)
    behind = subst (λ (x : Option Run). TurnBehind net tick switch (put_all (made_by net x) now.pending)) (sym (left_is net placed tick switch rows ready lt are ∙ leaving_early net switch tick before))
        (stays_behind net tick switch now.pending ready.sound.some lt (omega (arith, before, ready.sound.short)) ready.sound.links is.flying.behind)

    at : (o : Option Pending) → IfSome o (λ p. fits net.parts p.event) → IfSome o (λ p. IsInput placed.code switch p.event)
    at None fit = tt
    at (Some p) fit = ready.takes switch p.event (omega (arith, lt, ready.switches)) fit

-- ---- the results of a turn

-- the number of turns is small
pub few_turns : (net : Network) (tick switch : ℕ) → net.scene.stop * net.scene.switches ≤ 131072 → tick < net.scene.stop → switch < net.scene.switches → tick * net.scene.switches + switch < 131072
few_turns net tick switch few before lt =
    let n = net.scene.switches in
    let whole : tick + 1 + (net.scene.stop - (tick + 1)) ≡ net.scene.stop = omega (arith, before) in
    omega (arith, few, lt, ap (λ (m : ℕ). m * n) whole, both (tick + 1) (net.scene.stop - (tick + 1)) n, both tick 1 n)
  where
    both : (a b n : ℕ) → (a + b) * n ≡ a * n + b * n
    both a b n = grind arith

pub few_entered : (net : Network) (placed : PlacedParts) (tick switch : ℕ) (now : Piped) → IsReady net placed → tick < net.scene.stop → switch < net.scene.switches → IsPiped net placed tick switch now →
    now.entered + 1 < 2 ^ 64
few_entered net placed tick switch now ready before lt is =
    omega (arith, is.flying.entered, most_entered net (tick * net.scene.switches + switch), few_turns net tick switch ready.ticks before lt)

pub few_lost : (net : Network) (placed : PlacedParts) (tick switch : ℕ) (now : Piped) → IsReady net placed → tick < net.scene.stop → switch < net.scene.switches → IsPiped net placed tick switch now →
    now.lost + 8 < 2 ^ 64
few_lost net placed tick switch now ready before lt is =
    omega (arith, is.flying.lost, most_lost net (tick * net.scene.switches + switch - net.limits.stages * net.scene.switches) ready.few, few_turns net tick switch ready.ticks before lt)

kept_next : (net : Network) (placed : PlacedParts) (tick switch : ℕ) (now : Piped) (o : Option Run) (pending : List Pending) → IsPiped net placed tick switch now →
    IfSome o (λ r. (net.limits.stages ≤ tick) × Entered net switch (tick - net.limits.stages) r) → pending ≡ without_first (is_ready switch tick) (put_all (made_by net o) now.pending) →
    IfSome o (λ run. KeptAfter net.parts run pending) → list_all (is_kept net.parts (tick - net.limits.stages) (kept_from net.limits.stages tick (switch + 1)) 0) pending ≡ true
kept_next net placed tick switch now None pending is so queue after = at (cases_lt tick net.limits.stages)
  where
    popped : list_all (is_kept net.parts (tick - net.limits.stages) (kept_from net.limits.stages tick switch) 0) pending ≡ true
    popped = subst (λ (q : List Pending). list_all (is_kept net.parts (tick - net.limits.stages) (kept_from net.limits.stages tick switch) 0) q ≡ true) (sym queue)
        (without_passes (is_kept net.parts (tick - net.limits.stages) (kept_from net.limits.stages tick switch) 0) (is_ready switch tick) now.pending is.kept)

    at : (tick < net.limits.stages) ⊎ (net.limits.stages ≤ tick) → list_all (is_kept net.parts (tick - net.limits.stages) (kept_from net.limits.stages tick (switch + 1)) 0) pending ≡ true
    at (inl early) =
        subst (λ (s : ℕ). list_all (is_kept net.parts (tick - net.limits.stages) s 0) pending ≡ true)
        (from_early net.limits.stages tick switch early ∙ sym (from_early net.limits.stages tick (switch + 1) early)) popped
    at (inr late) =
        subst (λ (s : ℕ). list_all (is_kept net.parts (tick - net.limits.stages) s 0) pending ≡ true) (sym (from_late net.limits.stages tick (switch + 1) late))
        (kept_switch net.parts (tick - net.limits.stages) switch 0 pending
        (subst (λ (s : ℕ). list_all (is_kept net.parts (tick - net.limits.stages) s 0) pending ≡ true) (from_late net.limits.stages tick switch late) popped))
kept_next net placed tick switch now (Some r) pending is so queue after =
    subst (λ (s : ℕ). list_all (is_kept net.parts (tick - net.limits.stages) s 0) pending ≡ true) (ap (λ (k : ℕ). k + 1) so.1.switch ∙ sym (from_late net.limits.stages tick (switch + 1) so.0))
    (subst (λ (t : ℕ). list_all (is_kept net.parts t (r.switch + 1) 0) pending ≡ true) so.1.tick after)

pub turn_piped : (net : Network) (placed : PlacedParts) (tick switch : ℕ) (now : Piped) (p q : PipeParts) (pending : List Pending) (entered lost : ℕ) → IsReady net placed → switch < net.scene.switches → tick < net.scene.stop →
    IsPiped net placed tick switch now → p ≡ get_or now.pipes switch p → IsOf placed q →
    (rows_in q) ≡ entered_by (packet_for (stages_of p.placed) tick switch (find (is_ready switch tick) (waits net p.placed (rows_in p) now.pending))) (advance (step_of p.placed) None (rows_in p)).0 →
    pending ≡ without_first (is_ready switch tick) (waits net p.placed (rows_in p) now.pending) →
    IfSome (left p.placed (rows_in p)) (λ run. KeptAfter net.parts run pending) →
    entered ≡ now.entered + one_if (find (is_ready switch tick) (waits net p.placed (rows_in p) now.pending)) →
    lost ≡ now.lost + losses_by net (left p.placed (rows_in p)) →
    IsPiped net placed tick (switch + 1) (record { pipes = set now.pipes switch q; pending = pending; entered = entered; lost = lost })
turn_piped net placed tick switch now p q pending entered lost ready lt before is here of rows queue after count losses = record {
  flying = subst (λ (k : ℕ). IsFlying net (stages_of placed) tick k (flying_of new)) (sym (add-one switch))
      (subst (IsFlying net (stages_of placed) tick (suc switch)) (sym turned) (keeps_flying net (stages_of placed) (IsGood placed net.parts) (fits net.parts) tick switch (flying_of now) ready.sound lt before is.flying));
  same = all_set (IsOf placed) now.pipes switch q is.same of;
  kept = kept_next net placed tick switch now (leaving net net.limits.stages switch tick) pending is (leaving_run net net.limits.stages switch tick ready.file ready.sends)
      (queue ∙ ap (λ (x : PlacedParts). without_first (is_ready switch tick) (waits net x (rows_in p) now.pending)) own ∙ ap (λ (o : Option Run). without_first (is_ready switch tick) (put_all (made_by net o) now.pending)) gone)
      (subst (λ (o : Option Run). IfSome o (λ run. KeptAfter net.parts run pending)) (ap (λ (x : PlacedParts). left x (rows_in p)) own ∙ gone) after);
}
  where
    new : Piped
    new = record { pipes = set now.pipes switch q; pending = pending; entered = entered; lost = lost }

    own : p.placed ≡ placed
    own = placed_at net placed tick switch now p lt is here

    are : RowsAre net placed tick switch (rows_in p)
    are = rows_at net placed tick switch now p lt is here

    gone : left placed (rows_in p) ≡ leaving net net.limits.stages switch tick
    gone = left_is net placed tick switch (rows_in p) ready lt are

    at : Flying Cells Packet
    at = flying_of now

    row : (rows_in p) ≡ get_or at.pipes switch []
    row = sym (map_get (λ (x : PipeParts). (rows_in x)) now.pipes switch p [] (pipe_within net placed tick switch now lt is) here)

    -- by the placed code and the rows
    By : PlacedParts → Rows → Flying Cells Packet
    By x r = record {
      pipes = set at.pipes switch (entered_by (packet_for (stages_of x) tick switch (find (is_ready switch tick) (waits net x r now.pending))) (advance (step_of x) None r).0);
      pending = without_first (is_ready switch tick) (waits net x r now.pending);
      entered = now.entered + one_if (find (is_ready switch tick) (waits net x r now.pending));
      lost = now.lost + losses_by net (left x r);
    }

    turned : flying_of new ≡ flying_turn net (stages_of placed) tick switch at
    turned =
        ap (λ (l : List Rows). record { pipes = l; pending = pending; entered = entered; lost = lost }) (map_set (λ (x : PipeParts). (rows_in x)) now.pipes switch q ∙ ap (λ (r : Rows). set at.pipes switch r) rows)
        ∙ ap (λ (l : List Pending). record { pipes = (By p.placed (rows_in p)).pipes; pending = l; entered = entered; lost = lost }) queue
        ∙ ap (λ (k : ℕ). record { pipes = (By p.placed (rows_in p)).pipes; pending = (By p.placed (rows_in p)).pending; entered = k; lost = lost }) count
        ∙ ap (λ (k : ℕ). record { pipes = (By p.placed (rows_in p)).pipes; pending = (By p.placed (rows_in p)).pending; entered = (By p.placed (rows_in p)).entered; lost = k }) losses
        ∙ ap (λ (x : PlacedParts). By x (rows_in p)) own ∙ ap (By placed) row

-- the last switch of a tick is followed by the first of the next
pub piped_next : (net : Network) (placed : PlacedParts) (tick : ℕ) (now : Piped) → IsPiped net placed tick net.scene.switches now → IsPiped net placed (tick + 1) 0 now
piped_next net placed tick now is = record {
  flying = subst (λ (t : ℕ). IsFlying net (stages_of placed) t 0 (flying_of now)) (sym (add-one tick)) (flying_next net (stages_of placed) tick (flying_of now) is.flying);
  same = is.same;
  kept = at (cases_lt tick net.limits.stages);
}
  where
    at : (tick < net.limits.stages) ⊎ (net.limits.stages ≤ tick) → list_all (is_kept net.parts (tick + 1 - net.limits.stages) (kept_from net.limits.stages (tick + 1) 0) 0) now.pending ≡ true
    at (inl early) =
        let none : tick - net.limits.stages ≡ tick + 1 - net.limits.stages = omega (arith, early) in
        subst (λ (s : ℕ). list_all (is_kept net.parts (tick + 1 - net.limits.stages) s 0) now.pending ≡ true) (from_early net.limits.stages tick net.scene.switches early ∙ sym (nought net.limits.stages (tick + 1)))
        (subst (λ (t : ℕ). list_all (is_kept net.parts t (kept_from net.limits.stages tick net.scene.switches) 0) now.pending ≡ true) none is.kept)
      where
        nought : (stages t : ℕ) → kept_from stages t 0 ≡ 0
        nought stages t = grind (arith, nat_tests)
    at (inr late) =
        let next : tick - net.limits.stages + 1 ≡ tick + 1 - net.limits.stages = omega (arith, late) in
        subst (λ (s : ℕ). list_all (is_kept net.parts (tick + 1 - net.limits.stages) s 0) now.pending ≡ true) (sym (nought net.limits.stages (tick + 1)))
        (subst (λ (t : ℕ). list_all (is_kept net.parts t 0 0) now.pending ≡ true) next
        (kept_tick net.parts (tick - net.limits.stages) net.scene.switches now.pending
        (subst (λ (s : ℕ). list_all (is_kept net.parts (tick - net.limits.stages) s 0) now.pending ≡ true) (from_late net.limits.stages tick net.scene.switches late) is.kept)))
      where
        nought : (stages t : ℕ) → kept_from stages t 0 ≡ 0
        nought stages t = grind (arith, nat_tests)

-- ---- in the words of the code

module _ {A E : Type 0} where
  pub of_ok : (r : Result A E) (P : Type 0) (x : A) → r ≡ Ok x → OnOk r P → P
  of_ok r P x is on = subst (λ (q : Result A E). OnOk q P) is on

  pub ok_all : (r : Result A E) (P : Type 0) → ((x : A) → r ≡ Ok x → P) → OnOk r P
  ok_all (Ok x) P by = by x refl
  ok_all (Err e) P by = tt

-- the conditions of the turn of a switch with this pipe
pub record Own (net : Network) (placed : PlacedParts) (tick switch : ℕ) (now : Piped) (p : PipeParts) : Type 0 where
  pub own : p.placed ≡ placed
  pub is : left p.placed (rows_in p) ≡ leaving net net.limits.stages switch tick
  pub fits : IfSome (left p.placed (rows_in p)) (Fits net.parts)
  pub kept : IfSome (left p.placed (rows_in p)) (λ run. KeptBefore net.parts run now.pending)
  pub input : tick < net.scene.stop → IfSome (find (is_ready switch tick) (waits net p.placed (rows_in p) now.pending)) (λ e. IsInput p.placed.code switch e.event)

pub with_own : (net : Network) (placed : PlacedParts) (tick switch : ℕ) (now : Piped) (p : PipeParts) → IsReady net placed → switch < net.scene.switches → IsPiped net placed tick switch now →
    p ≡ get_or now.pipes switch p → Own net placed tick switch now p
with_own net placed tick switch now p ready lt is here =
    let own = sym (placed_at net placed tick switch now p lt is here) in
    let are = rows_at net placed tick switch now p lt is here in
    record {
      own = sym own;
      is = subst (λ (x : PlacedParts). left x (rows_in p) ≡ leaving net net.limits.stages switch tick) own (left_is net placed tick switch (rows_in p) ready lt are);
      fits = subst (λ (x : PlacedParts). IfSome (left x (rows_in p)) (Fits net.parts)) own (left_fits net placed tick switch (rows_in p) ready lt are);
      kept = subst (λ (x : PlacedParts). IfSome (left x (rows_in p)) (λ run. KeptBefore net.parts run now.pending)) own (left_kept net placed tick switch now (rows_in p) ready lt are is);
      input = λ before. subst (λ (x : PlacedParts). IfSome (find (is_ready switch tick) (waits net x (rows_in p) now.pending)) (λ e. IsInput x.code switch e.event)) own
          (comes_input net placed tick switch now (rows_in p) ready lt before are is);
    }

-- between two ticks
pub rows_between : (net : Network) (placed : PlacedParts) (tick switch : ℕ) (now : Piped) (p : PipeParts) → switch < net.scene.switches → IsPiped net placed tick 0 now →
    p ≡ get_or now.pipes switch p → RowsAre net placed tick switch (rows_in p)
rows_between net placed tick switch now p lt is here =
    sym (map_get (λ (q : PipeParts). (rows_in q)) now.pipes switch p [] within here)
    ∙ is.flying.pipes switch lt ∙ ap (picture (step_of placed) (first_cells placed) (fed net (stages_of placed) switch)) (clock_start tick switch)
  where
    within : switch < length now.pipes
    within = omega (arith, lt, is.flying.long, length-map now.pipes (λ (q : PipeParts). (rows_in q)))

pub pipe_between : (net : Network) (placed : PlacedParts) (tick switch : ℕ) (now : Piped) (p : PipeParts) → switch < net.scene.switches → IsPiped net placed tick 0 now →
    p ≡ get_or now.pipes switch p → p ≡ pipe_at net placed tick switch
pipe_between net placed tick switch now p lt is here =
    let within : switch < length now.pipes = omega (arith, lt, is.flying.long, length-map now.pipes (λ (q : PipeParts). (rows_in q))) in
    subst (IsOf placed) (sym here) (all_get (IsOf placed) now.pipes switch p is.same within) ∙ ap (with_rows placed) (rows_between net placed tick switch now p lt is here)

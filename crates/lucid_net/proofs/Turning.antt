-- The turns of a tick, one after another.
use Rattle.std.proofs.Common.{◌≡◌, ℕ, ◌+◌, ◌-◌, ◌*◌, ◌<◌, ◌≤◌, List, [], ◌++◌, Option, None, Some, true, length, length-set, set, sym, ◌∙◌, ap, subst, add-one, arith}
use Rattle.std.specs.List.{find, list_all}
use Rattle.lucid_base.specs.declared.event.Event.{Event}
use Rattle.lucid_core.specs.Fits.{event_fits}
use Rattle.lucid_core.specs.Parts.{CoreParts}
use Rattle.lucid_io.proofs.Leaves.{Leaves-whole, Leaves-after, Leaves-nothing}
use Rattle.lucid_io.specs.Puts.{Leaves, PutsAll}
use Rattle.lucid_net_spec.proofs.Passing.{first_of, without_passes}
use Rattle.lucid_net_spec.proofs.Telling.{pieces-all, pieces-next, pieces-none, turn_untold, turns_pieces}
use Rattle.lucid_net_spec.specs.Log.{State, done_at, enters, losses, made, put_all, run_at, turn, turns}
use Rattle.lucid_net_spec.specs.Older.{is_older}
use Rattle.lucid_net_spec.specs.Pieces.{pieces, turn_text, untold}
use Rattle.lucid_net_spec.specs.Ways.{Network, Run}
use Rattle.lucid_queue.specs.Waiting.{is_ready, without_first}
use Rattle.lucid_queue.specs.declared.pending.Pending.{Pending}
use Rattle.lucid_net.specs.Entering.{entered_text, with_cells, with_entered}
use Rattle.lucid_net.specs.Kept.{IsKept, is_kept}
use Rattle.lucid_net.proofs.Keeping.{found_passes, kept_switch, kept_tick, unfound}

-- this queue in place of the old one
abbrev pub with_pending : State → List Pending → State
with_pending now pending = record { cells = now.cells; pending = pending; text = []; entered = now.entered; lost = now.lost }

-- the state without the first event that is ready
abbrev pub popped : ℕ → ℕ → State → State
popped tick switch now = record { cells = now.cells; pending = without_first (is_ready switch tick) now.pending; text = []; entered = now.entered; lost = now.lost }

pub turn_enters : (net : Network) (tick switch : ℕ) (now : State) (p : Pending) → now.text ≡ [] → find (is_ready switch tick) now.pending ≡ Some p →
    (turn net tick switch now).text ≡ entered_text net tick switch (popped tick switch now) p.event
turn_enters net tick switch now p none is = ap (λ (o : Option Pending). (enters net tick switch now o).text) is ∙ ap (λ (l : List ℕ). l ++ entered_text net tick switch (popped tick switch now) p.event) none

pub turn_after : (net : Network) (tick switch : ℕ) (now : State) (p : Pending) → find (is_ready switch tick) now.pending ≡ Some p →
    untold (turn net tick switch now) ≡ with_entered net tick switch (popped tick switch now) p.event
turn_after net tick switch now p is = ap (λ (o : Option Pending). untold (enters net tick switch now o)) is

pub turn_passes : (net : Network) (tick switch : ℕ) (now : State) → find (is_ready switch tick) now.pending ≡ None → turn net tick switch now ≡ now
turn_passes net tick switch now is = ap (enters net tick switch now) is

pub popped_kept : (parts : CoreParts) (switches tick switch : ℕ) (now : State) → IsKept parts switches tick switch now → IsKept parts switches tick switch (popped tick switch now)
popped_kept parts switches tick switch now kept = record {
  pending = without_passes (is_kept parts tick switch 0) (is_ready switch tick) now.pending kept.pending;
  cells = kept.cells;
  entered = kept.entered;
  lost = kept.lost;
}

pub popped_fits : (parts : CoreParts) (switches tick switch : ℕ) (now : State) (p : Pending) → IsKept parts switches tick switch now → find (is_ready switch tick) now.pending ≡ Some p → event_fits parts p.event ≡ true
popped_fits parts switches tick switch now p kept is =
    first_of (event_fits parts p.event) (is_older tick switch 0 p.key) (found_passes (is_kept parts tick switch 0) (is_ready switch tick) now.pending p is kept.pending)

pub unfound_pending : (tick switch : ℕ) (ps : List Pending) → find (is_ready switch tick) ps ≡ None → without_first (is_ready switch tick) ps ≡ ps
unfound_pending tick switch ps is = unfound (is_ready switch tick) ps is

pub passed_kept : (parts : CoreParts) (switches tick switch : ℕ) (now : State) → IsKept parts switches tick switch now → IsKept parts switches tick (switch + 1) now
passed_kept parts switches tick switch now kept = record {
  pending = kept_switch parts tick switch 0 now.pending kept.pending;
  cells = kept.cells;
  entered = omega (arith, kept.entered);
  lost = omega (arith, kept.lost);
}

pub entered_kept : (parts : CoreParts) (switches tick switch : ℕ) (now new : State) (cells : List (List ℕ)) (n : ℕ) → IsKept parts switches tick switch now →
    new.cells ≡ set now.cells switch cells → list_all (is_kept parts tick (switch + 1) 0) new.pending ≡ true → new.entered ≡ now.entered + 1 → new.lost ≡ now.lost + n → n ≤ 8 →
    IsKept parts switches tick (switch + 1) new
entered_kept parts switches tick switch now new cells n kept same all counted lost few = record {
  pending = all;
  cells = ap length same ∙ length-set now.cells switch cells ∙ kept.cells;
  entered = omega (arith, kept.entered, counted);
  lost = omega (arith, kept.lost, lost, few);
}

-- The state after an event ran whole and its outs are queued or lost.
pub entered_after : (net : Network) (tick switch : ℕ) (now ran : State) (event : Event) (run : Run) (pending : List Pending) (n : ℕ) →
    ran ≡ with_cells switch now (done_at net tick switch now event).cells → run ≡ run_at net tick switch now event → pending ≡ put_all (made net run) ran.pending → n ≡ losses net run →
    record { cells = ran.cells; pending = pending; text = []; entered = ran.entered + 1; lost = ran.lost + n } ≡ with_entered net tick switch now event
entered_after net tick switch now ran event run pending n after is put counted =
    let whole : Run = run_at net tick switch now event in
    let cells : List (List (List ℕ)) = (with_cells switch now (done_at net tick switch now event).cells).cells in
    let queue : pending ≡ put_all (made net whole) now.pending = put ∙ ap (λ (r : Run). put_all (made net r) ran.pending) is ∙ ap (λ (s : State). put_all (made net whole) s.pending) after in
    ap (λ (s : State). record { cells = s.cells; pending = pending; text = []; entered = s.entered + 1; lost = s.lost + n }) after
    ∙ ap (λ (q : List Pending). record { cells = cells; pending = q; text = []; entered = now.entered + 1; lost = now.lost + n }) queue
    ∙ ap (λ (k : ℕ). record { cells = cells; pending = put_all (made net whole) now.pending; text = []; entered = now.entered + 1; lost = now.lost + k }) (counted ∙ ap (losses net) is)

-- the turns before this switch are done
pub record Turning {T : Type 0} (written : T → Option (List ℕ)) (faults : T → ℕ) (old sink : T) (net : Network) (tick : ℕ) (begun now : State) (switch : ℕ) : Type 0 where
  pub state : now ≡ untold (turns net tick switch begun)
  pub kept : IsKept net.parts net.scene.switches tick switch now
  pub text : Leaves written faults old sink (turns net tick net.scene.switches begun).text (pieces (turn_text net tick begun) switch (net.scene.switches - switch))

pub turning_first : {T : Type 0} (written : T → Option (List ℕ)) (faults : T → ℕ) (sink : T) (net : Network) (tick : ℕ) (now : State) → now.text ≡ [] →
    IsKept net.parts net.scene.switches tick 0 now → Turning written faults sink sink net tick now now 0
turning_first written faults sink net tick now none kept = record {
  state = untold_is now none;
  kept = kept;
  text =
      subst (λ (l : List ℕ). Leaves written faults sink sink l (pieces (turn_text net tick now) 0 (net.scene.switches - 0)))
      (sym (turns_pieces net tick net.scene.switches now ∙ ap (λ (l : List ℕ). l ++ pieces (turn_text net tick now) 0 net.scene.switches) none ∙ pieces-all (turn_text net tick now) net.scene.switches))
      Leaves-whole;
}
  where
    untold_is : (s : State) → s.text ≡ [] → s ≡ untold s
    untold_is s none = ap (λ (l : List ℕ). record { cells = s.cells; pending = s.pending; text = l; entered = s.entered; lost = s.lost }) none

-- the text of the turn of a switch
pub turn_piece : (net : Network) (tick switch : ℕ) (begun now : State) → now ≡ untold (turns net tick switch begun) → (turn net tick switch now).text ≡ turn_text net tick begun switch
turn_piece net tick switch begun now is = ap (λ (s : State). (turn net tick switch s).text) is

pub turning_next : {T : Type 0} {written : T → Option (List ℕ)} {faults : T → ℕ} {old sink after : T} (net : Network) (tick : ℕ) (begun now new : State) (switch : ℕ) → switch < net.scene.switches →
    Turning written faults old sink net tick begun now switch → PutsAll written faults sink after (turn net tick switch now).text → new ≡ untold (turn net tick switch now) →
    IsKept net.parts net.scene.switches tick (switch + 1) new → Turning written faults old after net tick begun new (switch + 1)
turning_next {T} {written} {faults} {old} {sink} {after} net tick begun now new switch lt so puts is kept = record {
  state = is
      ∙ ap (λ (s : State). untold (turn net tick switch s)) so.state
      ∙ sym (turn_untold net tick switch (turns net tick switch begun))
      ∙ ap (λ (n : ℕ). untold (turns net tick n begun)) (sym (add-one switch));
  kept = kept;
  text = Leaves-after so.text (subst (PutsAll written faults sink after) (turn_piece net tick switch begun now so.state) puts) (pieces-next (turn_text net tick begun) switch net.scene.switches lt);
}

pub turning_all : {T : Type 0} {written : T → Option (List ℕ)} {faults : T → ℕ} {old sink : T} (net : Network) (tick : ℕ) (begun now : State) (switch : ℕ) → net.scene.switches ≤ switch →
    Turning written faults old sink net tick begun now switch → PutsAll written faults old sink (turns net tick net.scene.switches begun).text
turning_all net tick begun now switch le so = Leaves-nothing so.text (pieces-none (turn_text net tick begun) switch net.scene.switches le)

pub ticked_kept : (parts : CoreParts) (switches tick : ℕ) (now : State) → IsKept parts switches tick switches now → IsKept parts switches (tick + 1) 0 now
ticked_kept parts switches tick now kept = record {
  pending = kept_tick parts tick switches now.pending kept.pending;
  cells = kept.cells;
  entered = subst (λ (n : ℕ). now.entered ≤ n) more kept.entered;
  lost = subst (λ (n : ℕ). now.lost ≤ 8 * n) more kept.lost;
}
  where
    more : tick * switches + switches ≡ (tick + 1) * switches + 0
    more = grind arith

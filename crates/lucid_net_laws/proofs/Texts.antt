-- The later text is that of the network whose events run whole.
use Rattle.std.proofs.Common.{◌≡◌, ℕ, zero, suc, ◌+◌, ◌-◌, ◌<◌, ◌≤◌, ◌⊎◌, inl, inr, List, [], ◌++◌, Option, None, Some, option_map, refl, sym, ◌∙◌, ap, append-nil, arith}
use Rattle.std.proofs.lemmas.Bool.{cases_lt}
use Rattle.std.specs.List.{find}
use Rattle.lucid_net_spec.proofs.Telling.{pieces-push, tick_told, turns_pieces, turns_untold}
use Rattle.lucid_net_spec.specs.Log.{State, enters, run_at, ticks, turn, turns}
use Rattle.lucid_net_spec.specs.Pieces.{pieces, tick_text, turn_text, untold}
use Rattle.lucid_net_spec.specs.Ways.{Network, Run}
use Rattle.lucid_pipe_laws.proofs.Stream.{late_at, late_none}
use Rattle.lucid_queue.specs.Waiting.{is_ready}
use Rattle.lucid_queue.specs.declared.pending.Pending.{Pending}
use Rattle.lucid_net_laws.specs.Runs.{entering, late_text, left_text, run_of, runs, text_by}
use Rattle.lucid_net_laws.proofs.Whole.{entering_early}

pub pieces-same : (f g : ℕ → List ℕ) (from count end : ℕ) → from + count ≤ end → ((i : ℕ) → i < end → f i ≡ g i) → pieces f from count ≡ pieces g from count
pieces-same f g from zero end le same = refl
pieces-same f g from (suc count) end le same =
    ap (λ (l : List ℕ). l ++ pieces f (from + 1) count) (same from (omega (arith, le))) ∙ ap (λ (l : List ℕ). g from ++ l) (pieces-same f g (from + 1) count end (omega (arith, le)) same)

pub pieces-empty : (f : ℕ → List ℕ) (from count : ℕ) → ((i : ℕ) → f i ≡ []) → pieces f from count ≡ []
pieces-empty f from zero none = refl
pieces-empty f from (suc count) none = ap (λ (l : List ℕ). l ++ pieces f (from + 1) count) (none from) ∙ pieces-empty f (from + 1) count none

enters_block : (net : Network) (t s : ℕ) (w : State) (o : Option Pending) → (enters net t s (untold w) o).text ≡ text_by net (option_map (λ p. run_at net t s w p.event) o)
enters_block net t s w None = refl
enters_block net t s w (Some p) = refl

-- the text of a turn is that of its run
turn_block : (net : Network) (t s : ℕ) → turn_text net t (untold (ticks net t)) s ≡ text_by net (runs net s t)
turn_block net t s =
    enters_block net t s (turns net t s (untold (ticks net t))) (find (is_ready s t) (turns net t s (untold (ticks net t))).pending)
    ∙ ap (λ (w : State). text_by net (run_of net t s w)) (sym (turns_untold net t s (ticks net t)))

tick_blocks : (net : Network) (t : ℕ) → tick_text net t ≡ pieces (λ s. text_by net (runs net s t)) 0 net.scene.switches
tick_blocks net t =
    turns_pieces net t net.scene.switches (untold (ticks net t))
    ∙ pieces-same (turn_text net t (untold (ticks net t))) (λ s. text_by net (runs net s t)) 0 net.scene.switches net.scene.switches (omega arith) (λ s lt. turn_block net t s)

late_before : (net : Network) (lag t : ℕ) → t < lag → late_text net lag t ≡ []
late_before net zero t lt = absurd (omega (arith, lt))
late_before net (suc lag) zero lt = refl
late_before net (suc lag) (suc t) lt = late_before net lag t (omega (arith, lt))

late_later : (net : Network) (lag t : ℕ) → late_text net lag (lag + t) ≡ tick_text net t
late_later net zero t = ap (tick_text net) none
  where
    none : zero + t ≡ t
    none = omega arith
late_later net (suc lag) t = ap (late_text net (suc lag)) next ∙ late_later net lag t
  where
    next : suc lag + t ≡ suc (lag + t)
    next = omega arith

-- the texts of the turns of a tick, one after another, are that of the tick
pub late_turns : (net : Network) (lag t : ℕ) → t < net.scene.stop + lag → late_text net lag t ≡ pieces (left_text net lag t) 0 net.scene.switches
late_turns net lag t lt = at (cases_lt t lag)
  where
    at : (t < lag) ⊎ (lag ≤ t) → late_text net lag t ≡ pieces (left_text net lag t) 0 net.scene.switches
    at (inl before) =
        late_before net lag t before
        ∙ sym (pieces-empty (left_text net lag t) 0 net.scene.switches (λ s. ap (text_by net) (late_none (entering net s) t lag before)))
    at (inr later) =
        let is : lag + (t - lag) ≡ t = omega (arith, later) in
        let early : t - lag < net.scene.stop = omega (arith, later, lt) in
        sym (ap (late_text net lag) is) ∙ late_later net lag (t - lag) ∙ tick_blocks net (t - lag)
        ∙ pieces-same (λ s. text_by net (runs net s (t - lag))) (left_text net lag t) 0 net.scene.switches net.scene.switches (omega arith)
        (λ s _. ap (text_by net) (sym (entering_early net s (t - lag) early) ∙ sym (late_at (entering net s) (t - lag) lag)) ∙ ap (λ (k : ℕ). left_text net lag k s) is)

-- the texts of ticks, one after another, are those of the definition this many ticks before
pub late_ticks : (net : Network) (lag t : ℕ) → pieces (late_text net lag) 0 t ≡ (ticks net (t - lag)).text
late_ticks net lag zero = ap (λ (k : ℕ). (ticks net k).text) none
  where
    none : zero ≡ zero - lag
    none = omega arith
late_ticks net lag (suc t) = pieces-push (late_text net lag) 0 t t (omega arith) ∙ ap (λ (l : List ℕ). l ++ late_text net lag t) (late_ticks net lag t) ∙ sym (pub_told (cases_lt t lag))
  where
    pub_told : (t < lag) ⊎ (lag ≤ t) → (ticks net (suc t - lag)).text ≡ (ticks net (t - lag)).text ++ late_text net lag t
    pub_told (inl before) =
        let same : suc t - lag ≡ t - lag = omega (arith, before) in
        ap (λ (k : ℕ). (ticks net k).text) same ∙ sym (append-nil (ticks net (t - lag)).text) ∙ ap (λ (l : List ℕ). (ticks net (t - lag)).text ++ l) (sym (late_before net lag t before))
    pub_told (inr later) =
        let next : suc t - lag ≡ t - lag + 1 = omega (arith, later) in
        let is : lag + (t - lag) ≡ t = omega (arith, later) in
        ap (λ (k : ℕ). (ticks net k).text) next ∙ tick_told net (t - lag)
        ∙ ap (λ (l : List ℕ). (ticks net (t - lag)).text ++ l) (sym (late_later net lag (t - lag)) ∙ ap (late_text net lag) is)

-- The text of turns and ticks, piece after piece.
use Rattle.std.proofs.Common.{◌≡◌, ℕ, zero, suc, ◌+◌, ◌-◌, List, ◌++◌, Option, None, Some, refl, sym, ◌∙◌, ap, append_assoc, append-nil, arith}
use Rattle.std.specs.List.{find}
pub use Rattle.lucid_log.proofs.PiecesLemmas.{pieces-all, pieces-next, pieces-none, pieces-push}
use Rattle.lucid_log.specs.Pieces.{pieces}
use Rattle.lucid_net_spec.specs.Log.{State, enters, ticks, turn, turns}
use Rattle.lucid_net_spec.specs.Pieces.{tick_text, turn_text, untold}
use Rattle.lucid_net_spec.specs.Ways.{Network}
use Rattle.lucid_queue.specs.Waiting.{is_ready}
use Rattle.lucid_queue.specs.declared.pending.Pending.{Pending}

-- the new text does not depend on the earlier one
pub enters_text : (net : Network) (tick switch : ℕ) (now : State) (o : Option Pending) → (enters net tick switch now o).text ≡ now.text ++ (enters net tick switch (untold now) o).text
enters_text net tick switch now None = sym (append-nil now.text)
enters_text net tick switch now (Some p) = refl

pub enters_untold : (net : Network) (tick switch : ℕ) (now : State) (o : Option Pending) → untold (enters net tick switch now o) ≡ untold (enters net tick switch (untold now) o)
enters_untold net tick switch now None = refl
enters_untold net tick switch now (Some p) = refl

turn_told : (net : Network) (tick switch : ℕ) (now : State) → (turn net tick switch now).text ≡ now.text ++ (turn net tick switch (untold now)).text
turn_told net tick switch now = enters_text net tick switch now (find (is_ready switch tick) now.pending)

pub turn_untold : (net : Network) (tick switch : ℕ) (now : State) → untold (turn net tick switch now) ≡ untold (turn net tick switch (untold now))
turn_untold net tick switch now = enters_untold net tick switch now (find (is_ready switch tick) now.pending)

pub turns_untold : (net : Network) (tick n : ℕ) (now : State) → untold (turns net tick n now) ≡ untold (turns net tick n (untold now))
turns_untold net tick zero now = refl
turns_untold net tick (suc n) now =
    turn_untold net tick n (turns net tick n now)
    ∙ ap (λ (s : State). untold (turn net tick n s)) (turns_untold net tick n now)
    ∙ sym (turn_untold net tick n (turns net tick n (untold now)))

pub turns_told : (net : Network) (tick n : ℕ) (now : State) → (turns net tick n now).text ≡ now.text ++ (turns net tick n (untold now)).text
turns_told net tick zero now = sym (append-nil now.text)
turns_told net tick (suc n) now =
    turn_told net tick n (turns net tick n now)
    ∙ ap (λ (s : State). (turns net tick n now).text ++ (turn net tick n s).text) (turns_untold net tick n now)
    ∙ ap (λ (l : List ℕ). l ++ (turn net tick n (untold (turns net tick n (untold now)))).text) (turns_told net tick n now)
    ∙ append_assoc now.text (turns net tick n (untold now)).text (turn net tick n (untold (turns net tick n (untold now)))).text
    ∙ sym (ap (λ (l : List ℕ). now.text ++ l) (turn_told net tick n (turns net tick n (untold now))))

pub turns_pieces : (net : Network) (tick n : ℕ) (now : State) → (turns net tick n now).text ≡ now.text ++ pieces (turn_text net tick now) 0 n
turns_pieces net tick zero now = sym (append-nil now.text)
turns_pieces net tick (suc n) now =
    turn_told net tick n (turns net tick n now)
    ∙ ap (λ (l : List ℕ). l ++ turn_text net tick now n) (turns_pieces net tick n now)
    ∙ append_assoc now.text (pieces (turn_text net tick now) 0 n) (turn_text net tick now n)
    ∙ sym (ap (λ (l : List ℕ). now.text ++ l) (pieces-push (turn_text net tick now) 0 n n (omega arith)))

-- the text of a tick follows that of the ticks before it
pub tick_told : (net : Network) (tick : ℕ) → (ticks net (tick + 1)).text ≡ (ticks net tick).text ++ tick_text net tick
tick_told net tick = ap (λ (t : ℕ). (ticks net t).text) (next tick) ∙ turns_told net tick net.scene.switches (ticks net tick)
  where
    next : (n : ℕ) → n + 1 ≡ suc n
    next n = omega arith

pub tick_untold : (net : Network) (tick : ℕ) → untold (ticks net (tick + 1)) ≡ untold (turns net tick net.scene.switches (untold (ticks net tick)))
tick_untold net tick = ap (λ (t : ℕ). untold (ticks net t)) (next tick) ∙ turns_untold net tick net.scene.switches (ticks net tick)
  where
    next : (n : ℕ) → n + 1 ≡ suc n
    next n = omega arith

pub ticks_pieces : (net : Network) (n : ℕ) → (ticks net n).text ≡ pieces (tick_text net) 0 n
ticks_pieces net zero = refl
ticks_pieces net (suc n) =
    turns_told net n net.scene.switches (ticks net n)
    ∙ ap (λ (l : List ℕ). l ++ tick_text net n) (ticks_pieces net n)
    ∙ sym (pieces-push (tick_text net) 0 n n (omega arith))

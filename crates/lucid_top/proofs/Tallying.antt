-- What a tally tells of a text that was written to it.
use Rattle.std.proofs.Common.{◌≡◌, ℕ, List, [], ◌++◌, Some, Ok, ◌∙◌, ap}
use Rattle.lucid_log_tally.specs.Tally.{TallyView}
use Rattle.lucid_top_words.specs.Outcome.{Outcome}
use Rattle.lucid_top_words.specs.Writing.{Performs}

same-text : {a b : List ℕ} → ◌≡◌ {A = Outcome} (Ok a) (Ok b) → a ≡ b
same-text same = cc

pub tally-is : (stops : List ℕ → Type 0) (old new : TallyView) (text : List ℕ) → old ≡ record { bytes = []; faults = 0 } →
    Performs stops (λ o. o ≡ Ok text) (λ (t : TallyView). Some t.bytes) (λ (t : TallyView). t.faults) old new (Ok tt) → new.bytes ≡ text
tally-is stops old new text begins d =
    let before : old.bytes ≡ [] = ap TallyView.bytes begins in
    d.2.bytes ∙ ap (λ (l : List ℕ). l ++ d.0) before ∙ same-text d.1.is

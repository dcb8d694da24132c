-- How a drive with a snapshot ends whose text is written while memory is taken.
use Rattle.std.proofs.Common.{◌≡◌, ℕ, List, Option, Ok, Err, sym, subst}
use Rattle.lucid_top_words.specs.Outcome.{End, Outcome}
use Rattle.lucid_top_words.proofs.Parts.{one-text}
use Rattle.lucid_snap.specs.declared.error.SnapError.{SnapError}
use Rattle.lucid_snap.specs.declared.error.SnapError.TheVariants as error
use Rattle.lucid_snap.specs.Writes as snap
use Rattle.lucid_top.specs.Causes.{of_snap}
use Rattle.lucid_top_pipes.proofs.CausesLemmas.{ended-at}
use Rattle.lucid_top_words.specs.Writing.{Performs, anywhere}

pub snap-stopped : {W : Type 0} (written : W → Option (List ℕ)) (faults : W → ℕ) (out out' : W) (text : List ℕ) (e : SnapError) (end : End) →
    snap.Writes written faults out out' text (Err e) → end ≡ Err (of_snap e) → Performs anywhere (λ o. o ≡ Ok text) written faults out out' end
snap-stopped written faults out out' text e end writes is = subst (Performs anywhere (λ (o : Outcome). o ≡ Ok text) written faults out out') (sym is) (at e writes)
  where
    at : (e : SnapError) → snap.Writes written faults out out' text (Err e) → Performs anywhere (λ (o : Outcome). o ≡ Ok text) written faults out out' (Err (of_snap e))
    at error.WriteFault w = (text, one-text text, w)
    at error.Memory w = ended-at anywhere (λ (o : Outcome). o ≡ Ok text) written faults out out' text (one-text text) (w.0, w.1, tt)

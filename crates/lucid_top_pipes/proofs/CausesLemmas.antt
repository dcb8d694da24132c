-- How a command ends whose text is written while memory is taken.
use Rattle.std.proofs.Common.{◌≡◌, ℕ, ◌≤◌, List, Option, Result, inl, inr, ap, ◌∙◌, Ok, Err, length, take, refl, sym, subst, arith, length-append}
use Rattle.std.proofs.Math.Seq.{take-append_seam}
use Rattle.std.specs.Io.KnownBytes.{Appends}
use Rattle.lucid_io.specs.Puts.{Leaves, PutsPart}
use Rattle.lucid_net.specs.declared.error.NetError.{NetError}
use Rattle.lucid_net.specs.declared.error.NetError.TheVariants as net
use Rattle.lucid_net.specs.Writes.{Writes}
use Rattle.lucid_top_words.specs.declared.refusal.Refusal.TheVariants as refusal
use Rattle.lucid_top_words.specs.Outcome.{End, IsTheAnswer, Outcome}
use Rattle.lucid_top_words.specs.declared.refusal.Refusal.{Refusal}
use Rattle.lucid_top_words.proofs.Parts.{one-text}
use Rattle.lucid_top_words.proofs.Seen.{untouched}
use Rattle.lucid_top_pipes.specs.Causes.{of_net}
use Rattle.lucid_pipe.specs.declared.sight.Sight.{Sight}
use Rattle.lucid_top_pipes.specs.Watching.{Seen, Shown, ShowsSome}
use Rattle.lucid_top_words.specs.Writing.{Performs, PutsSome, anywhere}

-- where some of the text is left, a prefix was written
abbrev PutsSome-left : {W : Type 0} (written : W → Option (List ℕ)) (faults : W → ℕ) (out out' : W) (text rest : List ℕ) →
    Leaves written faults out out' text rest → PutsSome written faults out out' text
PutsSome-left written faults out out' text rest left = record {
  count = length left.before;
  within = subst (λ (l : List ℕ). length left.before ≤ length l) (sym left.parts) (omega (arith, length-append left.before rest));
  bytes =
      subst (λ (l : List ℕ). Appends (written out) (written out') (take (length left.before) l)) (sym left.parts)
      (subst (Appends (written out) (written out')) (sym (take-append_seam left.before rest)) left.puts.bytes);
  quiet = left.puts.quiet;
}

-- that prefix is what was written
left-before : {W : Type 0} (written : W → Option (List ℕ)) (faults : W → ℕ) (out out' : W) (text rest : List ℕ) (left : Leaves written faults out out' text rest) → left.before ≡ take (length left.before) text
left-before written faults out out' text rest left = sym (ap (take (length left.before)) left.parts ∙ take-append_seam left.before rest)

-- of a text that was begun this much was written, and it may end there
abbrev pub EndsAt : {W : Type 0} → (List ℕ → Type 0) → (W → Option (List ℕ)) → (W → ℕ) → W → W → List ℕ → Type 0
EndsAt stops written faults out out' text = (rest : List ℕ) × (left : Leaves written faults out out' text rest) × stops left.before

pub ended-at : {W : Type 0} (stops : List ℕ → Type 0) (answers : Outcome → Type 0) (written : W → Option (List ℕ)) (faults : W → ℕ) (out out' : W) (text : List ℕ) →
    IsTheAnswer answers (Ok text) → EndsAt stops written faults out out' text → Performs stops answers written faults out out' (Err refusal.Memory)
ended-at stops answers written faults out out' text answer ends =
    let left = ends.1 in
    inr (text, answer, PutsSome-left written faults out out' text ends.0 left, subst stops (left-before written faults out out' text ends.0 left) ends.2)

-- a network that stopped ends the command that writes its log
pub stopped : {W : Type 0} (stops : List ℕ → Type 0) (answers : Outcome → Type 0) (written : W → Option (List ℕ)) (faults : W → ℕ) (out out' : W) (text : List ℕ) (e : NetError) (end : End) →
    IsTheAnswer answers (Ok text) → Writes written faults out out' text (Err e) → (e ≡ net.Memory → EndsAt stops written faults out out' text) → end ≡ Err (of_net e) →
    Performs stops answers written faults out out' end
stopped stops answers written faults out out' text e end answer writes may is = subst (Performs stops answers written faults out out') (sym is) (at e writes may)
  where
    at : (e : NetError) → Writes written faults out out' text (Err e) → (e ≡ net.Memory → EndsAt stops written faults out out' text) → Performs stops answers written faults out out' (Err (of_net e))
    at net.WriteFault w may = (text, answer, w)
    at net.Memory w may = ended-at stops answers written faults out out' text answer (may refl)

-- one that may stop anywhere
pub stopped-anywhere : {W : Type 0} (answers : Outcome → Type 0) (written : W → Option (List ℕ)) (faults : W → ℕ) (out out' : W) (text : List ℕ) (e : NetError) (end : End) →
    IsTheAnswer answers (Ok text) → Writes written faults out out' text (Err e) → end ≡ Err (of_net e) → Performs anywhere answers written faults out out' end
stopped-anywhere answers written faults out out' text e end answer writes is =
    stopped anywhere answers written faults out out' text e end answer writes
    (λ memory. let left = subst (λ (e : NetError). Writes written faults out out' text (Err e)) memory writes in (left.0, left.1, tt)) is

-- a write failed of the one text that is written
pub cut : {W : Type 0} (stops : List ℕ → Type 0) (written : W → Option (List ℕ)) (faults : W → ℕ) (out out' : W) (text : List ℕ) (end : End) →
    PutsPart written faults out out' text → end ≡ Err refusal.WriteFault → Performs stops (λ o. o ≡ Ok text) written faults out out' end
cut stops written faults out out' text end part is = subst (Performs stops (λ (o : Outcome). o ≡ Ok text) written faults out out') (sym is) (text, one-text text, part)

-- memory ran out before anything was written
pub ended-by-memory : {W : Type 0} (stops : List ℕ → Type 0) (answers : Outcome → Type 0) (written : W → Option (List ℕ)) (faults : W → ℕ) (out : W) (r : Refusal) (end : End) →
    r ≡ refusal.Memory → end ≡ Err r → Performs stops answers written faults out out end
ended-by-memory stops answers written faults out r end memory is =
    subst (Performs stops answers written faults out out) (sym (is ∙ ap (λ (s : Refusal). Err s) memory)) (inl untouched)

-- a part of it was shown, and with it the call was refused
pub shown-stopped : {P : Type 0} (shows : Result (List Sight) Refusal → Type 0) (old new : Seen) (sights : List Sight) (r : Refusal) (end : Result P Refusal) → IsTheAnswer shows (Ok sights) →
    ShowsSome old new sights → end ≡ Err r → Shown shows old new end
shown-stopped shows old new sights r end answer some is = subst (Shown shows old new) (sym is) (inr (sights, answer, some))

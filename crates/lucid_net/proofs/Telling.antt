-- The text of turns and ticks, piece after piece.
use Rattle.std.proofs.Common.{◌≡◌, ℕ, List, ◌++◌, Option, Result, Ok, Err, refl, sym, ◌∙◌, ap, subst, append_assoc}
use Rattle.lucid_io.proofs.Leaves.{Leaves-after, PutsAll-last, PutsPart-at, PutsPart-last}
use Rattle.lucid_io.specs.Puts.{Leaves}
use Rattle.lucid_net.specs.Writes.{Writes}
use Rattle.lucid_net.specs.declared.error.NetError.TheVariants as error
use Rattle.lucid_net.specs.declared.error.NetError.{NetError}

-- a piece of a text that fails ends the text
pub Writes-stop : {T : Type 0} (written : T → Option (List ℕ)) (faults : T → ℕ) (old now new : T) (whole left piece rest : List ℕ) (r : Result (Unit {0}) NetError) (e : NetError) → r ≡ Err e →
    Leaves written faults old now whole left → Writes written faults now new piece (Err e) → left ≡ piece ++ rest → Writes written faults old new whole r
Writes-stop {T} written faults old now new whole left piece rest r e is so_far cut first = subst (Writes written faults old new whole) (sym is) (at e cut)
  where
    at : (e : NetError) → Writes written faults now new piece (Err e) → Writes written faults old new whole (Err e)
    at error.WriteFault cut = PutsPart-at rest so_far cut first
    at error.Memory cut = (cut.0 ++ rest, Leaves-after so_far cut.1.puts (first ∙ ap (λ (l : List ℕ). l ++ rest) cut.1.parts ∙ append_assoc cut.1.before cut.0 rest))

pub Writes-memory : {T : Type 0} (written : T → Option (List ℕ)) (faults : T → ℕ) (old new : T) (whole left : List ℕ) (r : Result (Unit {0}) NetError) → r ≡ Err error.Memory →
    Leaves written faults old new whole left → Writes written faults old new whole r
Writes-memory written faults old new whole left r is so_far = subst (Writes written faults old new whole) (sym is) (left, so_far)

-- the last piece of a text, whole or not
pub Writes-last : {T : Type 0} (written : T → Option (List ℕ)) (faults : T → ℕ) (old now new : T) (whole left : List ℕ) (r : Result (Unit {0}) NetError) →
    Leaves written faults old now whole left → Writes written faults now new left r → Writes written faults old new whole r
Writes-last written faults old now new whole left (Ok u) so_far puts = PutsAll-last so_far puts refl
Writes-last written faults old now new whole left (Err error.WriteFault) so_far cut = PutsPart-last so_far cut refl
Writes-last written faults old now new whole left (Err error.Memory) so_far cut = (cut.0, Leaves-after so_far cut.1.puts cut.1.parts)

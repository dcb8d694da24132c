-- Texts that are put one after another, up to the first fault; and texts that wait in a room on their way to the sink.
use Rattle.std.proofs.Common.{◌≡◌, ℕ, ◌+◌, ◌<◌, ◌≤◌, List, [], ◌++◌, Option, Result, Ok, Err, OnErr, length, take, refl, sym, ◌∙◌, ap, subst, arith, append_assoc, append-nil, length-append}
use Rattle.std.proofs.lemmas.List.{take-append-le}
use Rattle.std.proofs.Math.Seq.{take-append-add}
use Rattle.std.proofs.KnownBytes.{Appends-nil, Appends-trans}
use Rattle.std.specs.Io.KnownBytes.{Appends}
use Rattle.lucid_io.specs.Counts.{Rose}
use Rattle.lucid_io.specs.Puts.{AppendsProperPrefix, PutsAll, PutsPart, Leaves}

-- one piece whole, and then another that is cut: their joined text is cut
AppendsProperPrefix-after : (a b c : Option (List ℕ)) (xs ys : List ℕ) → Appends a b xs → AppendsProperPrefix b c ys → AppendsProperPrefix a c (xs ++ ys)
AppendsProperPrefix-after a b c xs ys whole cut =
    (length xs + cut.0, omega (arith, cut.1, length-append xs ys), subst (Appends a c) (sym (take-append-add xs ys cut.0)) (Appends-trans a b c xs (take cut.0 ys) whole cut.2))

-- a piece that is cut is a text that is cut, for any continuation
AppendsProperPrefix-before : (a b : Option (List ℕ)) (xs ys : List ℕ) → AppendsProperPrefix a b xs → AppendsProperPrefix a b (xs ++ ys)
AppendsProperPrefix-before a b xs ys cut =
    let within : cut.0 < length xs = cut.1 in
    (cut.0, omega (arith, cut.1, length-append xs ys), subst (Appends a b) (sym (take-append-le cut.0 xs ys (omega (arith, within)))) cut.2)

-- before the first piece all is left
pub Leaves-whole : {T : Type 0} {written : T → Option (List ℕ)} {faults : T → ℕ} {sink : T} {whole : List ℕ} → Leaves written faults sink sink whole whole
Leaves-whole {T} {written} {faults} {sink} {whole} =
    record { before = []; puts = record { bytes = Appends-nil (written sink); quiet = refl }; parts = refl }

-- one more piece, put whole
pub Leaves-after : {T : Type 0} {written : T → Option (List ℕ)} {faults : T → ℕ} {old now new : T} {whole left piece rest : List ℕ} →
    Leaves written faults old now whole left → PutsAll written faults now new piece → left ≡ piece ++ rest → Leaves written faults old new whole rest
Leaves-after {T} {written} {faults} {old} {now} {new} {whole} {left} {piece} {rest} so_far puts first = record {
  before = so_far.before ++ piece;
  puts = record {
    bytes = Appends-trans (written old) (written now) (written new) so_far.before piece so_far.puts.bytes puts.bytes;
    quiet = puts.quiet ∙ so_far.puts.quiet;
  };
  parts = subst (λ (l : List ℕ). whole ≡ so_far.before ++ l) first so_far.parts ∙ sym (append_assoc so_far.before piece rest);
}

-- nothing is left
pub Leaves-nothing : {T : Type 0} {written : T → Option (List ℕ)} {faults : T → ℕ} {old now : T} {whole left : List ℕ} →
    Leaves written faults old now whole left → left ≡ [] → PutsAll written faults old now whole
Leaves-nothing {T} {written} {faults} {old} {now} {whole} {left} so_far none =
    subst (PutsAll written faults old now) (sym (subst (λ (l : List ℕ). whole ≡ so_far.before ++ l) none so_far.parts ∙ append-nil so_far.before)) so_far.puts

-- the last piece, put whole
pub PutsAll-last : {T : Type 0} {written : T → Option (List ℕ)} {faults : T → ℕ} {old now new : T} {whole left piece : List ℕ} →
    Leaves written faults old now whole left → PutsAll written faults now new piece → left ≡ piece → PutsAll written faults old new whole
PutsAll-last {piece = piece} so_far puts last = Leaves-nothing (Leaves-after so_far puts (last ∙ sym (append-nil piece))) refl

-- the first piece that is cut cuts the whole, for any continuation
pub PutsPart-at : {T : Type 0} {written : T → Option (List ℕ)} {faults : T → ℕ} {old now new : T} {whole left piece : List ℕ} (rest : List ℕ) →
    Leaves written faults old now whole left → PutsPart written faults now new piece → left ≡ piece ++ rest → PutsPart written faults old new whole
PutsPart-at {T} {written} {faults} {old} {now} {new} {whole} {left} {piece} rest so_far cut first = record {
  bytes =
      subst (AppendsProperPrefix (written old) (written new)) (sym (subst (λ (l : List ℕ). whole ≡ so_far.before ++ l) first so_far.parts))
      (AppendsProperPrefix-after (written old) (written now) (written new) so_far.before (piece ++ rest) so_far.puts.bytes
      (AppendsProperPrefix-before (written now) (written new) piece rest cut.bytes));
  cause = subst (λ (n : ℕ). Rose n (faults new)) so_far.puts.quiet cut.cause;
  later = subst (λ (n : ℕ). n ≤ faults new) so_far.puts.quiet cut.later;
}

-- the last piece, cut
pub PutsPart-last : {T : Type 0} {written : T → Option (List ℕ)} {faults : T → ℕ} {old now new : T} {whole left piece : List ℕ} →
    Leaves written faults old now whole left → PutsPart written faults now new piece → left ≡ piece → PutsPart written faults old new whole
PutsPart-last {piece = piece} so_far cut last = PutsPart-at [] so_far cut (last ∙ sym (append-nil piece))

-- before the first piece nothing waits, and all is left
pub Leaves-empty : {T : Type 0} {written : T → Option (List ℕ)} {faults : T → ℕ} {sink : T} {waits : List ℕ} (whole : List ℕ) → waits ≡ [] → Leaves written faults sink sink whole (waits ++ whole)
Leaves-empty {T} {written} {faults} {sink} {waits} whole none = subst (λ (l : List ℕ). Leaves written faults sink sink whole (l ++ whole)) (sym none) Leaves-whole

-- The buffered bytes of the whole text remain, and then `left`, which begins with a piece: once that piece is buffered, the buffered
-- bytes remain, and then the rest.
pub Leaves-held : {T : Type 0} {written : T → Option (List ℕ)} {faults : T → ℕ} {old now new : T} {whole left : List ℕ} (waits waits_now piece rest : List ℕ) →
    Leaves written faults old now whole (waits ++ left) → Leaves written faults now new (waits ++ piece) waits_now → left ≡ piece ++ rest →
    Leaves written faults old new whole (waits_now ++ rest)
Leaves-held {T} {written} {faults} {old} {now} {new} {whole} {left} waits waits_now piece rest so_far held first =
    Leaves-after so_far held.puts
    (ap (λ (l : List ℕ). waits ++ l) first ∙ sym (append_assoc waits piece rest) ∙ ap (λ (l : List ℕ). l ++ rest) held.parts ∙ append_assoc held.before waits_now rest)

-- the last piece, held
pub Leaves-held_last : {T : Type 0} {written : T → Option (List ℕ)} {faults : T → ℕ} {old now new : T} {whole left : List ℕ} (waits waits_now piece : List ℕ) →
    Leaves written faults old now whole (waits ++ left) → Leaves written faults now new (waits ++ piece) waits_now → left ≡ piece → Leaves written faults old new whole waits_now
Leaves-held_last {T} {written} {faults} {old} {now} {new} {whole} {left} waits waits_now piece so_far held last =
    subst (Leaves written faults old new whole) (append-nil waits_now) (Leaves-held waits waits_now piece [] so_far held (last ∙ sym (append-nil piece)))

-- no piece is left
pub Leaves-held_all : {T : Type 0} {written : T → Option (List ℕ)} {faults : T → ℕ} {old now : T} {whole left : List ℕ} (waits : List ℕ) →
    Leaves written faults old now whole (waits ++ left) → left ≡ [] → Leaves written faults old now whole waits
Leaves-held_all {T} {written} {faults} {old} {now} {whole} {left} waits so_far none =
    subst (Leaves written faults old now whole) (ap (λ (l : List ℕ). waits ++ l) none ∙ append-nil waits) so_far

-- a piece that is cut as it was to be held cuts the whole
pub PutsPart-held : {T : Type 0} {written : T → Option (List ℕ)} {faults : T → ℕ} {old now new : T} {whole left : List ℕ} (waits piece rest : List ℕ) →
    Leaves written faults old now whole (waits ++ left) → PutsPart written faults now new (waits ++ piece) → left ≡ piece ++ rest → PutsPart written faults old new whole
PutsPart-held {T} {written} {faults} {old} {now} {new} {whole} {left} waits piece rest so_far cut first =
    PutsPart-at rest so_far cut (ap (λ (l : List ℕ). waits ++ l) first ∙ sym (append_assoc waits piece rest))

-- the last piece, cut as it was to be held
pub PutsPart-held_last : {T : Type 0} {written : T → Option (List ℕ)} {faults : T → ℕ} {old now new : T} {whole left : List ℕ} (waits piece : List ℕ) →
    Leaves written faults old now whole (waits ++ left) → PutsPart written faults now new (waits ++ piece) → left ≡ piece → PutsPart written faults old new whole
PutsPart-held_last waits piece so_far cut last = PutsPart-held waits piece [] so_far cut (last ∙ sym (append-nil piece))

-- an unconditional fact holds at an error
pub on_err : {T E P : Type 0} (r : Result T E) → P → OnErr r P
on_err (Ok x) p = tt
on_err (Err e) p = p

use Rattle.std.proofs.Common.{◌≡◌, List, true, IfSome, sym, ap, subst, ◌∙◌}
use Rattle.lucid_refusals.specs.declared.readings.Reading.{Reading}
use Rattle.lucid_refusals.specs.Readings.{are_apart, others_of, readings_of, same_lengths}
use Rattle.lucid_refusals.proofs.ReadingsLemmas.{apart_of}
use Rattle.lucid_refusals.proofs.readings.fits.Goals as goal

pub returns-then-are_apart : goal.returns-then-are_apart
returns-then-are_apart c = λ _.
    let literals = c.args.literals.now in
    let known = c.args.known.now in
    let shape = c.args.shape.now in
    let read : (same_lengths known shape ≡ true) × (c.in-Some.readings ≡ readings_of known shape) =
    subst (λ o. IfSome o (λ (r : List Reading). (same_lengths known shape ≡ true) × (r ≡ readings_of known shape))) c.in-Some.is c.in_ok-readings.ensures in
    let others : c.as_slice-3.result.now ≡ others_of literals (readings_of known shape) =
    c.as_slice-3.ensures ∙ c.in_ok-others.ensures ∙ ap (others_of literals) (c.as_slice.ensures ∙ read.1) in
    (read.0, apart_of literals (readings_of known shape) (sym (ap (are_apart literals) others) ∙ sym c.are_apart.ensures ∙ c.if-are_apart.true))

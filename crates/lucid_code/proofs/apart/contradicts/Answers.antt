use Rattle.std.proofs.Common.{◌∙◌, true, length, sym, ap, refl}
use Rattle.std.specs.Option.{option_map_or}
use Rattle.std.proofs.lemmas.Option.{slice_get_read}
use Rattle.lucid_code.specs.Guards.{contradict}
use Rattle.lucid_code.proofs.Sharing.{ends_oppose}
use Rattle.lucid_code.proofs.apart.contradicts.Goals as goal

pub returns-then-opposes_end : goal.returns-then-opposes_end
returns-then-opposes_end c =
    let found = slice_get_read c.args.ops.now (length c.args.ops.now) c.args.place c.in-Some.op.now refl c.in-Some.ensures.lookup.3.0 c.in-Some.ensures.lookup.1 in
    c.if-opposes_end.true
    ∙ sym
    (ap (λ o. option_map_or (λ p. contradict p.guard c.args.guard.now) o true) found
    ∙ ends_oppose c.args.ops.now c.args.ends.now c.args.guard.now c.args.place c.in-Some.op.now c.requires found (c.opposes_end.ensures c.if-opposes_end.true))

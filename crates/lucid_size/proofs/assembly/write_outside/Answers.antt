use Rattle.std.proofs.Common.{◌∙◌, ◌++◌, [], None, ap, append_assoc}
use Rattle.std.proofs.lemmas.Result.{on_ok_weaker}
use Rattle.lucid_lex.specs.Reading.{joined}
use Rattle.lucid_size.specs.Parts.{gap_before, steps_between}
use Rattle.lucid_size.specs.Pieces.{pieces_of}
use Rattle.lucid_size.proofs.assembly.write_outside.Goals as goal

pub returns : goal.returns
returns c =
    let text = c.args.text.now in
    let ts = c.args.tokens.now in
    let P = joined (pieces_of text c.args.underscores 0 (steps_between text c.args.names.now None ts c.args.first c.args.end)) [] in
    let g = (gap_before text ts c.args.end).bytes in
    on_ok_weaker c.write_gap.result
    (λ h. h ∙ ap (λ l. l ++ g) c.in_ok-write_between.ensures ∙ append_assoc c.args.out.now.items P g)
    c.write_gap.ensures

use Rattle.std.proofs.Common.{◌∙◌, ◌++◌, [], ap, sym}
use Rattle.std.proofs.lemmas.List.{append-nil}
use Rattle.std.proofs.lemmas.List.Elements.{All-get_or}
use Rattle.lucid_lex.specs.Reading.{joined}
use Rattle.lucid_size.specs.Pieces.{pieces_of}
use Rattle.lucid_size.specs.Places.{InText}
use Rattle.lucid_size.proofs.Bytes.{write_turn}
use Rattle.lucid_size.proofs.InText.{past}
use Rattle.lucid_size.proofs.writing.write_steps.Goals as goal

pub write_step-requires : goal.write_step-requires
write_step-requires c = All-get_or (InText c.args.text.now) c.args.steps.now c.loop-step.step-index _ c.loop-step-test.true c.requires

pub loop-step-preserved : goal.loop-step-preserved
loop-step-preserved c =
    write_turn c.args.text.now c.args.underscores c.args.width c.args.steps.now c.loop-step.step-index _
    c.loop-step.out.items c.write_step.new.out.items c.loop-step-test.true c.in_ok-write_step.ensures
    ∙ c.loop-step.invariant

pub returns : goal.returns
returns c =
    let out = c.loop-step.out.items in
    sym (append-nil out)
    ∙ ap (λ l. out ++ joined (pieces_of c.args.text.now c.args.underscores c.args.width l) [])
    (sym (past c.args.steps.now c.loop-step.step-index c.loop-step-test.false))
    ∙ c.loop-step.invariant

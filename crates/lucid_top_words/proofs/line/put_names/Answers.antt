use Rattle.std.proofs.Common.{◌∙◌}
use Rattle.lucid_io.proofs.Leaves.{Leaves-after, PutsPart-at, on_err}
use Rattle.lucid_top_words.proofs.Cycles.{names_text-drop}
use Rattle.lucid_top_words.proofs.line.put_names.Goals as goal

pub returns-in_err-put_pieces-clause-part : goal.returns-in_err-put_pieces-clause-part
returns-in_err-put_pieces-clause-part g c =
    on_err _ (PutsPart-at _ c.loop-name.invariant c.in_err-put_pieces.ensures.part
    (names_text-drop c.args.names.now c.loop-name.name-index c.name-item.result c.bytes.result.now c.loop-name-test.true (c.bytes.ensures.value ∙ c.name-item.is)))

pub loop-name-preserved : goal.loop-name-preserved
loop-name-preserved g c =
    Leaves-after c.loop-name.invariant c.in_ok-put_pieces.ensures.all
    (names_text-drop c.args.names.now c.loop-name.name-index c.name-item.result c.bytes.result.now c.loop-name-test.true (c.bytes.ensures.value ∙ c.name-item.is))

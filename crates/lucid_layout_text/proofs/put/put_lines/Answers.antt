use Rattle.lucid_io.proofs.Leaves.{Leaves-after, Leaves-nothing, PutsPart-at, on_err}
use Rattle.lucid_layout_text.specs.Lines.{line_text}
use Rattle.lucid_layout_text.proofs.Puts.{texts_item, texts_none}
use Rattle.lucid_layout_text.proofs.put.put_lines.Goals as goal

pub returns-in_err-put_line-clause-part : goal.returns-in_err-put_line-clause-part
returns-in_err-put_line-clause-part g c =
    on_err _ (PutsPart-at _ c.loop-line.invariant c.in_err-put_line.ensures.part
    (texts_item (line_text c.args.arrays.now) c.args.lines.now c.loop-line.line-index c.line-item.result c.loop-line-test.true c.line-item.is))

pub loop-line-preserved : goal.loop-line-preserved
loop-line-preserved g c =
    Leaves-after c.loop-line.invariant c.in_ok-put_line.ensures.all
    (texts_item (line_text c.args.arrays.now) c.args.lines.now c.loop-line.line-index c.line-item.result c.loop-line-test.true c.line-item.is)

pub returns-clause-all : goal.returns-clause-all
returns-clause-all g c =
    Leaves-nothing c.loop-line.invariant (texts_none (line_text c.args.arrays.now) c.args.lines.now c.loop-line.line-index c.loop-line-test.false)

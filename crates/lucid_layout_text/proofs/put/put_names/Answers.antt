use Rattle.lucid_io.proofs.Leaves.{Leaves-after, Leaves-nothing, PutsPart-at, on_err}
use Rattle.lucid_layout_text.specs.Lines.{name_text}
use Rattle.lucid_layout_text.proofs.Puts.{texts_next, texts_none}
use Rattle.lucid_layout_text.proofs.put.put_names.Goals as goal

pub returns-in_err-put_name-clause-part : goal.returns-in_err-put_name-clause-part
returns-in_err-put_name-clause-part g c =
    on_err _ (PutsPart-at _ c.loop-number.invariant c.in_err-put_name.ensures.part
    (texts_next (name_text c.args.arrays.now) c.args.numbers.now c.loop-number.number-index _ c.loop-number-test.true))

pub loop-number-preserved : goal.loop-number-preserved
loop-number-preserved g c =
    Leaves-after c.loop-number.invariant c.in_ok-put_name.ensures.all
    (texts_next (name_text c.args.arrays.now) c.args.numbers.now c.loop-number.number-index _ c.loop-number-test.true)

pub returns-clause-all : goal.returns-clause-all
returns-clause-all g c =
    Leaves-nothing c.loop-number.invariant (texts_none (name_text c.args.arrays.now) c.args.numbers.now c.loop-number.number-index c.loop-number-test.false)

use Rattle.std.proofs.lemmas.Grind.{common_steps}
use Rattle.std.proofs.Common.{rules, refl, arith}
use Rattle.std.proofs.lemmas.Result.{on_err_weaker}
use Rattle.lucid_io.proofs.Leaves.{Leaves-whole, Leaves-after, PutsPart-at, PutsPart-last, on_err}
use Rattle.lucid_layout_text.proofs.Puts.{arrays_some}
use Rattle.lucid_layout_text.proofs.put.put_arrays.Goals as goal

pub returns-in_err-put_pieces-clause-part : goal.returns-in_err-put_pieces-clause-part
returns-in_err-put_pieces-clause-part g c =
    on_err _ (PutsPart-at _ Leaves-whole c.in_err-put_pieces.ensures.part (arrays_some c.args.arrays.now c.args.numbers.now (search rules)))

pub returns-clause-part : goal.returns-clause-part
returns-clause-part g c =
    on_err_weaker c.put_names.result
    (λ cut. PutsPart-last (Leaves-after Leaves-whole c.in_ok-put_pieces.ensures.all (arrays_some c.args.arrays.now c.args.numbers.now (search rules))) cut refl)
    c.put_names.ensures.part

pub returns-clause-all : goal.returns-clause-all
returns-clause-all g c = grind (arith, common_steps)

use Rattle.std.proofs.Common.{rules}
use Rattle.lucid_top_program.specs.Program.{IsElaborated}
use Rattle.lucid_top_words.proofs.Parts.{Prepares-err, Prepares-ok}
use Rattle.lucid_top_program.proofs.program.accepted_tree.Goals as goal

pub returns-in_err-core-clause-program : goal.returns-in_err-core-clause-program
returns-in_err-core-clause-program c =
    Prepares-err (IsElaborated c.args.tree.now) _ _ c.in_err-core.field-0.0 c.from_residual.result (search rules) c.in_err-core.ensures

pub returns-clause-program : goal.returns-clause-program
returns-clause-program c =
    Prepares-ok (IsElaborated c.args.tree.now) _ _ c.in_ok-core.core c.in_order.result c.in_ok-core.ensures c.in_order.ensures.ordered

use Rattle.std.proofs.lemmas.Grind.{elements}
use Rattle.std.proofs.Common.{rules, arith}
use Rattle.lucid_top_program.proofs.Ordering.{refused}
use Rattle.lucid_top_program.proofs.order.in_order.Goals as goal

pub returns-in-Err-NoOrder-clause-ordered : goal.returns-in-Err-NoOrder-clause-ordered
returns-in-Err-NoOrder-clause-ordered g c =
    refused c.args.tree.now c.args.core c.in-Err-NoOrder.decl c.line_of-line.result c.in-Err-NoOrder.cycle.items c.in_ok-cycle-in-Err-NoOrder.cycle
    (search rules) (search rules) (search rules)

pub returns-in-Ok-clause-ordered : goal.returns-in-Ok-clause-ordered
returns-in-Ok-clause-ordered g c = grind (arith, elements)

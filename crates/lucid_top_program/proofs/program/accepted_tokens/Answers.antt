use Rattle.std.proofs.Common.{rules}
use Rattle.lucid_top_program.specs.Program.{IsParsed}
use Rattle.lucid_top_words.proofs.Parts.{Prepares-err, Prepares-ok}
use Rattle.lucid_top_program.proofs.program.accepted_tokens.Goals as goal

pub returns-in_err-tree-clause-program : goal.returns-in_err-tree-clause-program
returns-in_err-tree-clause-program c =
    Prepares-err (IsParsed c.args.text.now c.args.tokens.items) _ _ c.in_err-tree.field-0.0 c.from_residual.result (search rules) c.in_err-tree.ensures

pub returns-clause-program : goal.returns-clause-program
returns-clause-program c =
    Prepares-ok (IsParsed c.args.text.now c.args.tokens.items) _ _ c.in_ok-tree.tree c.accepted_tree.result c.in_ok-tree.ensures c.accepted_tree.ensures.program

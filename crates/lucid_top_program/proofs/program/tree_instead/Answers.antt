use Rattle.std.proofs.Common.{List, subst}
use Rattle.lucid_lex.specs.declared.token.Token.{Token}
use Rattle.lucid_parse_tree.specs.declared.tree.Tree.{Tree}
use Rattle.lucid_top_words.specs.Outcome.{Prepares}
use Rattle.lucid_top_program.specs.Program.{IsParsed}
use Rattle.lucid_top_program.proofs.program.tree_instead.Goals as goal

pub returns : goal.returns
returns c = subst (λ (ts : List Token). Prepares (IsParsed c.args.text.now ts) (λ (tree : Tree). tree) c.tree_of.result) c.as_slice.ensures.value c.tree_of.ensures

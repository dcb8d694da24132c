use Rattle.std.proofs.Common.{◌≡◌, sym, subst, rules}
use Rattle.lucid_top_words.specs.Outcome.{Declines}
use Rattle.lucid_top_program.specs.Program.{IsParsed}
use Rattle.lucid_top_program.specs.Causes.{of_parse}
use Rattle.lucid_top_program.proofs.Trees.{parsed, not-parsed}
use Rattle.lucid_top_program.proofs.program.tree_of.Goals as goal

pub returns-in-Ok : goal.returns-in-Ok
returns-in-Ok c =
    let e = c.in-Ok.ensures in
    parsed c.args.text.now c.args.tokens.now _ e.shallow e.tree (λ t is. e.one t _ is e.tree) e.refuses_deep e.refuses

pub returns-in-Err : goal.returns-in-Err
returns-in-Err c =
    let e = c.in-Err.ensures in
    let is : c.of_parse.result ≡ of_parse c.in-Err.error = search rules in
    subst (Declines (IsParsed c.args.text.now c.args.tokens.now)) (sym is)
    (not-parsed c.args.text.now c.args.tokens.now c.in-Err.error (λ n h. e.too_deep n (cc)) (λ n h. e.no_tree n (cc)) e.parses e.refuses_deep e.refuses)

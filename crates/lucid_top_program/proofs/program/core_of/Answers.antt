use Rattle.std.proofs.Common.{◌≡◌, sym, subst, rules}
use Rattle.lucid_top_words.specs.Outcome.{Declines}
use Rattle.lucid_top_program.specs.Program.{IsElaborated}
use Rattle.lucid_top_program.specs.Causes.{of_types}
use Rattle.lucid_top_program.proofs.Trees.{elaborated, not-elaborated}
use Rattle.lucid_top_program.proofs.program.core_of.Goals as goal

pub returns-in-Ok : goal.returns-in-Ok
returns-in-Ok c = elaborated c.args.tree.now _ c.in-Ok.ensures.typed c.in-Ok.ensures.one

pub returns-in-Err : goal.returns-in-Err
returns-in-Err c =
    let is : c.of_types.result ≡ of_types c.in-Err.error = search rules in
    subst (Declines (IsElaborated c.args.tree.now)) (sym is) (not-elaborated c.args.tree.now c.in-Err.error c.in-Err.ensures.refused c.in-Err.ensures.one)

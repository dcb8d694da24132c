use Rattle.std.proofs.Common.{◌≡◌, Option, rules, subst}
use Rattle.lucid_base.specs.declared.event.Event.{Event}
use Rattle.lucid_top.specs.declared.commands.once.Ran.{Ran}
use Rattle.lucid_top.specs.Once.{ran, shown}
use Rattle.lucid_top_words.specs.Outcome.{Outcome, Prepares}
use Rattle.lucid_top_program.specs.Program.{IsProgram}
use Rattle.lucid_top_words.proofs.Parts.{Prepares-err, Prepares-ok}
use Rattle.lucid_top.proofs.commands.once.prepare.Goals as goal

pub returns-in_err-core : goal.returns-in_err-core
returns-in_err-core c = Prepares-err (IsProgram c.args.text.now) _ _ c.in_err-core.field-0.0 c.from_residual.result (search rules) c.in_err-core.ensures.program

pub returns : goal.returns
returns c =
    Prepares-ok (IsProgram c.args.text.now) _ _ c.in_ok-core.core c.run.result c.in_ok-core.ensures.program
    (subst (λ (e : Option Event). Prepares (λ (o : Outcome). o ≡ ran c.in_ok-core.core e) (λ (r : Ran). shown r.core r.event r.outs r.cells) c.run.result) c.fitting-event.ensures.event c.run.ensures)

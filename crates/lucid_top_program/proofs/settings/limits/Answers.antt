use Rattle.std.proofs.Common.{sym, subst}
use Rattle.lucid_top_words.specs.Outcome.{Declines}
use Rattle.lucid_top_program.specs.Settings.{IsLimits}
use Rattle.lucid_top_program.proofs.JsonFiles.{limits-read, not-limits}
use Rattle.lucid_top_program.proofs.settings.limits.Goals as goal

pub returns-in-Ok-clause-limits : goal.returns-in-Ok-clause-limits
returns-in-Ok-clause-limits c = limits-read c.args.text.now _ c.in-Ok.ensures.answers

pub returns-in-Err-clause-limits : goal.returns-in-Err-clause-limits
returns-in-Err-clause-limits c = subst (Declines (IsLimits c.args.text.now)) (sym c.of_limits.ensures) (not-limits c.args.text.now c.in-Err.error c.in-Err.ensures.answers)

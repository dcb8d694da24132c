use Rattle.std.proofs.Common.{sym, subst}
use Rattle.lucid_top_words.specs.Outcome.{Declines}
use Rattle.lucid_top_fit.specs.Fit.{IsPlaced}
use Rattle.lucid_top_fit.proofs.FirstFit.{not-placed, placed-is, stages-laid}
use Rattle.lucid_top_fit.proofs.layout.placed.Goals as goal

pub returns-in-Ok-clause-placed : goal.returns-in-Ok-clause-placed
returns-in-Ok-clause-placed c = placed-is c.args.core.now c.args.limits.now c.args.code.now _ c.layouts_are_one.ensures c.in-Ok.ensures.ok

pub returns-in-Ok-clause-stages : goal.returns-in-Ok-clause-stages
returns-in-Ok-clause-stages c = stages-laid c.args.core.now c.args.limits.now c.args.code.now _ c.in-Ok.ensures.ok

pub returns-in_ok-cause-in-Err-clause-placed : goal.returns-in_ok-cause-in-Err-clause-placed
returns-in_ok-cause-in-Err-clause-placed c =
    subst (Declines (IsPlaced c.args.core.now c.args.limits.now c.args.code.now)) (sym c.in_ok-cause-in-Err.ensures)
    (not-placed c.args.core.now c.args.limits.now c.args.code.now c.in-Err.error c.layouts_are_one.ensures c.in-Err.ensures.err)

use Rattle.std.proofs.Common.{sym, subst}
use Rattle.lucid_top_words.specs.Outcome.{Declines}
use Rattle.lucid_top_fit.specs.Placing.{IsCounted}
use Rattle.lucid_top_fit.proofs.FirstFit.{counted-is, not-counted}
use Rattle.lucid_top_fit.proofs.placement.counted.Goals as goal

pub returns-in-Ok-clause-counted : goal.returns-in-Ok-clause-counted
returns-in-Ok-clause-counted c = counted-is c.args.core.now c.args.limits.now c.args.code.now c.in-Ok.ensures.ok

pub returns-in_ok-cause-in-Err-clause-counted : goal.returns-in_ok-cause-in-Err-clause-counted
returns-in_ok-cause-in-Err-clause-counted c =
    subst (Declines (IsCounted c.args.core.now c.args.limits.now c.args.code.now)) (sym c.in_ok-cause-in-Err.ensures)
    (not-counted c.args.core.now c.args.limits.now c.args.code.now c.in-Err.error c.layouts_are_one.ensures c.in-Err.ensures.err)

use Rattle.std.proofs.Common.{sym, subst}
use Rattle.lucid_top_words.specs.Outcome.{Declines}
use Rattle.lucid_top_fit.specs.Fit.{IsComposed}
use Rattle.lucid_top_fit.proofs.Composing.{has-normal, not-composed}
use Rattle.lucid_top_fit.proofs.passes.flat.Goals as goal

pub returns-in-Ok-clause-fits : goal.returns-in-Ok-clause-fits
returns-in-Ok-clause-fits c = has-normal c.args.core.now c.counts_are_exact.ensures.length c.counts_are_exact.ensures.size c.in-Ok.ensures.fits

pub returns-in-Err-clause-refused : goal.returns-in-Err-clause-refused
returns-in-Err-clause-refused c =
    λ passes. subst (Declines (IsComposed c.args.core.now passes)) (sym c.of_inline.ensures) (not-composed c.args.core.now c.counts_are_exact.ensures.length c.counts_are_exact.ensures.size passes c.in-Err.error c.in-Err.ensures.refused)

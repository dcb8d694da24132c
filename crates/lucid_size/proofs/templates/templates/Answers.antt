use Rattle.std.proofs.Common.{◌∙◌, Ok, ap, sym}
use Rattle.std.proofs.lemmas.List.{append-nil}
use Rattle.lucid_size.specs.Cutting.{before_those}
use Rattle.lucid_size.specs.Templates.{templates_from}
use Rattle.lucid_size.proofs.InText.{past}
use Rattle.lucid_size.proofs.templates.templates.Goals as goal

pub loop-at-preserved : goal.loop-at-preserved
loop-at-preserved c = record { few = c.in_ok-step.ensures.few; left = c.in_ok-step.ensures.ok ∙ c.loop-at.invariant.left }

pub returns-clause-ok : goal.returns-clause-ok
returns-clause-ok c =
    let found = c.loop-at.cutting.found.items in
    sym c.loop-at.invariant.left
    ∙ ap (λ l. before_those found (templates_from c.loop-at.at c.loop-at.cutting.opened c.loop-at.cutting.more l))
    (past c.args.tokens.now c.loop-at.at c.loop-at-test.false)
    ∙ ap Ok (append-nil found)

use Rattle.std.proofs.Common.{◌+◌, ◌∙◌, List, false, drop, sym, ap}
use Rattle.std.specs.List.{fold}
use Rattle.std.proofs.lemmas.List.{at_drop_more, at_drop_all}
use Rattle.lucid_code.specs.declared.op.Literal.{Literal}
use Rattle.lucid_merge.specs.Product.{with_literal}
use Rattle.lucid_merge.proofs.pairing.put_literals.Goals as goal

pub loop-literal-preserved : goal.loop-literal-preserved
loop-literal-preserved c =
    let more = c.args.more.now in
    let i = c.loop-literal.literal-index in (
      ap (λ (p : List Literal). fold with_literal p (drop (i + 1) more)) c.in_ok-put_literal.ensures.value
          ∙ sym (at_drop_more (fold with_literal c.loop-literal.pattern) more i (record { field = 0; equal = false; value = 0 }) c.loop-literal-test.true) ∙ c.loop-literal.invariant.0,
      c.in_ok-put_literal.ensures.seen,
    )

pub returns-clause-value : goal.returns-clause-value
returns-clause-value c =
    sym (at_drop_all (fold with_literal c.loop-literal.pattern) c.args.more.now c.loop-literal.literal-index c.loop-literal-test.false) ∙ c.loop-literal.invariant.0

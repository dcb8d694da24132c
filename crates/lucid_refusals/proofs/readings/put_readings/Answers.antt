use Rattle.std.proofs.Common.{◌∙◌, sym, arith}
use Rattle.lucid_refusals.proofs.ReadingsLemmas.{reading_turn, reading_end}
use Rattle.lucid_refusals.proofs.readings.put_readings.Goals as goal

pub loop-at-preserved : goal.loop-at-preserved
loop-at-preserved c =
    reading_turn c.args.p.now c.args.q.now c.loop-at.at _ _ c.loop-at.readings c.push.new.self c.loop-at-test.true (omega (arith, c.requires, c.loop-at-test.true)) c.in_ok-push.ensures.ok ∙ c.loop-at.invariant

pub returns : goal.returns
returns c = sym (reading_end c.args.p.now c.args.q.now c.loop-at.at c.loop-at.readings c.loop-at-test.false) ∙ c.loop-at.invariant

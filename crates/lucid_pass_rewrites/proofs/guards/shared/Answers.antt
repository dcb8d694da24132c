use Rattle.std.proofs.Common.{rules, ◌≡◌, true}
use Rattle.lucid_pass_rewrites.specs.Covering.{same_at}
use Rattle.lucid_pass_rewrites.proofs.CoveringLemmas.{alike_more}
use Rattle.lucid_pass_rewrites.proofs.guards.shared.Goals as goal

pub loop-at-preserved : goal.loop-at-preserved
loop-at-preserved c =
    let here : same_at c.args.a.now c.args.b.now c.loop-at.at ≡ true = search rules in
    alike_more c.args.a.now c.args.b.now c.loop-at.at here c.loop-at.invariant

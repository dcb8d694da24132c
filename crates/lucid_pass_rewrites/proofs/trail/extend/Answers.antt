use Rattle.std.proofs.Common.{rules, ◌≡◌, ◌<◌, length, ◌++◌, ◌∷◌, []}
use Rattle.std.proofs.lemmas.List.{get_or_default}
use Rattle.lucid_pass_rewrites.specs.Comparisons.{direct_by}
use Rattle.lucid_pass_rewrites.proofs.TrailLemmas.{trail_turn}
use Rattle.lucid_pass_rewrites.proofs.trail.extend.Goals as goal

pub loop-at-preserved : goal.loop-at-preserved
loop-at-preserved c =
    let below : c.loop-at.at < length c.args.guard.now = search rules in
    let pushed : c.push.new.self.items ≡ c.loop-at.ends.items ++ length c.push_new.new.made.items ∷ [] = search rules in
    trail_turn (direct_by c.args.table.now) c.args.guard.now c.loop-at.at _ c.directed_literal.result c.loop-at.made.items c.push_new.new.made.items c.loop-at.ends.items c.push.new.self.items
    below (get_or_default _ _ _ _ below) c.directed_literal.ensures c.in_ok-push_new.ensures pushed c.loop-at.invariant

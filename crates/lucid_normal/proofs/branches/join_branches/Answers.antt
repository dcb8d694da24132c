use Rattle.lucid_normal_join.specs.Branches.{ends_at}
use Rattle.lucid_normal.specs.Bodies.{walk}
use Rattle.lucid_normal.proofs.EndsLemmas.{joins_at}
use Rattle.lucid_normal.proofs.branches.join_branches.Goals as goal

pub returns : goal.returns
returns c =
    let a = c.args in
    let s = walk a.machine.now in
    let j = c.in_ok-join.ensures in
    joins_at a.condition a.outer a.turned.notes.items (ends_at s.was a.turned.first) s
    _ j.env _ j.ops _ j.back

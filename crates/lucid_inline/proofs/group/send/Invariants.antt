use Rattle.std.proofs.Common.{◌≡◌, take}
use Rattle.lucid_inline.specs.Sites.{sent}
use Rattle.lucid_inline.proofs.group.send.Given as goal

abbrev pub invariant-loop-member : goal.invariant-loop-member
invariant-loop-member l = l.ss ≡ sent l.event l.first l.n l.delayed (take l.member-index l.members)

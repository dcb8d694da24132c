use Rattle.std.proofs.Common.{length, sym, ap, subst, arith}
use Rattle.lucid_pipe.specs.Pipe.{PipeParts}
use Rattle.lucid_snap.specs.Snap.{Follows, SnapParts}
use Rattle.lucid_snap.proofs.Following.{Fixed}
use Rattle.lucid_snap.proofs.Passing.{below_last, passes}
use Rattle.lucid_snap.proofs.snapshot.Snap.passed.Goals as goal

pub returns-then-k-len : goal.returns-then-k-len
returns-then-k-len c = λ before p cells moved f.
    passes before c.args.pipe.now _ _ cells c.args.k p moved (subst (λ (s : SnapParts). Follows s before cells) (sym c.self.view_is) f)
    (subst Fixed (ap (λ (q : PipeParts). q.placed) moved.is) (record { keep = c.keeps_laws.ensures.keep; is_placed = c.keeps_laws.ensures.placed; arrays = c.keeps_laws.ensures.arrays }))
    c.pass.ensures

pub returns-else-k-len : goal.returns-else-k-len
returns-else-k-len c = λ before p cells moved f.
    absurd (omega (arith, below_last before c.args.pipe.now c.args.self.now cells c.args.k p moved f, c.if-k-len.false, c.len.ensures, ap (λ (s : SnapParts). length s.stages) c.self.view_is))

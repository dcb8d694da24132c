use Rattle.std.proofs.Common.{◌≡◌, ◌∙◌, ap, ap₂, List}
use Rattle.lucid_code.specs.declared.op.Act.{Act}
use Rattle.lucid_code.specs.declared.op.Literal.{Literal}
use Rattle.lucid_code.specs.Uses.{with_operands}
use Rattle.lucid_pass_spec.specs.Looks.{looked}
use Rattle.lucid_pass_rewrites.specs.Changed.{finish_of, put_of, standing}
use Rattle.lucid_pass_rewrites.proofs.changed.changed_op.Goals as goal

pub returns : goal.returns
returns c =
    let list = standing c.args.now.done.now c.args.now.ops.now in
    let guard : c.in_ok-guard.guard ≡ c.args.op.now.guard = c.in_ok-guard.ensures in
    let done : c.finished.result ≡ finish_of c.args.now.looks (with_operands (looked (put_of c.args.now.looks c.args.now.widths.now) list c.args.op.now.guard) c.args.op.now.act)
    = c.finished.ensures ∙ ap (finish_of c.args.now.looks) (c.in_ok-act.ensures ∙ ap (λ gs. with_operands (looked (put_of c.args.now.looks c.args.now.widths.now) list gs) c.args.op.now.act) c.as_slice.ensures) in
    ap₂ (λ (g : List Literal) (a : Act). record { guard = g; level = c.args.op.now.level; act = a }) guard done

use Rattle.std.proofs.Common.{rules, ◌≡◌, ◌∙◌, sym, ap, ap₂, length, List, not}
use Rattle.lucid_code.specs.declared.op.Act.{Act}
use Rattle.lucid_code.specs.declared.op.Literal.{Literal}
use Rattle.lucid_pass_more_spec.specs.Lift.{drops, lifted_guard}
use Rattle.lucid_pass_more.proofs.LiftLemmas.{all_kept}
use Rattle.lucid_pass_more.proofs.lift.lifted.Goals as goal
use Rattle.lucid_pass_more.proofs.lift.lifted.Goals.{then-len-as_slice+in_ok-guard, else-len-as_slice+in_ok-guard-2}

pub returns : goal.returns
returns c =
    let guard : c.if-len-as_slice.guard ≡ lifted_guard c.args.known.ops.now c.args.k c.args.op.now.guard
    = elim c.if-len-as_slice.branch [
      | then-len-as_slice+in_ok-guard w ↦
          let same : length (lifted_guard c.args.known.ops.now c.args.k c.args.op.now.guard) ≡ length c.args.op.now.guard = search rules in
          w.guard-is ∙ w.in_ok-guard.ensures ∙ sym (all_kept (λ l. not (drops c.args.known.ops.now c.args.k l)) c.args.op.now.guard same)
      | else-len-as_slice+in_ok-guard-2 w ↦ w.guard-is ∙ w.in_ok-guard-2.ensures ∙ c.in_ok-literals.ensures ∙ ap (lifted_guard c.args.known.ops.now c.args.k) c.as_slice.ensures
    ] in
    ap₂ (λ (g : List Literal) (a : Act). record { guard = g; level = c.args.op.now.level; act = a }) guard c.in_ok-copy.ensures

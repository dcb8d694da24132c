use Rattle.std.proofs.Common.{◌≡◌, ◌∙◌, sym, ap, ap₂, subst, length, ℕ, List}
use Rattle.std.specs.List.{list_all}
use Rattle.lucid_code.specs.declared.op.Op.{Op}
use Rattle.lucid_code.specs.Parts.{made_of}
use Rattle.lucid_pass_spec.specs.Dead.{live}
use Rattle.lucid_pass_spec.specs.Replace.{MayReplace}
use Rattle.lucid_pass_spec.proofs.Gone.{dead_replaces}
use Rattle.lucid_pass.specs.Marks.{writes_below}
use Rattle.lucid_pass.proofs.DeadLemmas.{all_below}
use Rattle.lucid_pass.proofs.dead.DeadPass.run.Goals as goal

pub live-requires : goal.live-requires
live-requires c = ap₂ (λ (fields : List ℕ) (ops : List Op). list_all (writes_below (length fields)) ops) c.fields.ensures.value c.ops.ensures.value ∙ all_below c.args.code.now c.ops.ensures.valid

pub replaced-requires : goal.replaced-requires
replaced-requires c =
    let made : c.in_ok-ops.ops.items ≡ live c.args.code.now.ops = c.in_ok-ops.ensures ∙ ap live c.ops.ensures.value in
    subst (λ ops. MayReplace c.args.code.now (made_of c.args.code.now.fields c.args.code.now.inputs c.args.code.now.arrays ops)) (sym made) (dead_replaces c.args.code.now c.ops.ensures.valid)

use Rattle.std.proofs.Common.{◌≡◌, ◌∙◌, sym, ap, ap₂, subst, length, ◌-◌, ℕ, List}
use Rattle.std.specs.List.{list_all}
use Rattle.lucid_base.specs.Saturating.{saturating_sum}
use Rattle.lucid_code.specs.declared.op.Op.{Op}
use Rattle.lucid_code.specs.Parts.{made_of}
use Rattle.lucid_pass_more_spec.specs.Merge.{merged, merged_ops}
use Rattle.lucid_pass_spec.specs.Replace.{MayReplace}
use Rattle.lucid_pass_more_spec.proofs.MergeLemmas.{merge_replaces}
use Rattle.lucid_pass.specs.Marks.{writes_below}
use Rattle.lucid_pass.proofs.DeadLemmas.{all_below}
use Rattle.lucid_pass_rewrites.proofs.merge.MergePass.run.Goals as goal

pub merged_ops-requires : goal.merged_ops-requires
merged_ops-requires c = ap₂ (λ (fields : List ℕ) (ops : List Op). list_all (writes_below (length fields)) ops) c.fields.ensures.value c.ops.ensures.value ∙ all_below c.args.code.now c.ops.ensures.valid

pub replaced-requires : goal.replaced-requires
replaced-requires c =
    let made : c.in_ok-ops.ops.items ≡ (merged c.args.code.now).ops = c.in_ok-ops.ensures ∙ ap₂ merged_ops c.fields.ensures.value c.ops.ensures.value in
    subst (λ ops. MayReplace c.args.code.now (made_of c.args.code.now.fields c.args.code.now.inputs c.args.code.now.arrays ops)) (sym made) (merge_replaces c.args.code.now c.ops.ensures.valid)

pub returns-clause-gives : goal.returns-clause-gives
returns-clause-gives c =
    let made : c.in_ok-ops.ops.items ≡ (merged c.args.code.now).ops = c.in_ok-ops.ensures ∙ ap₂ merged_ops c.fields.ensures.value c.ops.ensures.value in
    c.in_ok-new.ensures.code ∙ ap (λ ops. made_of c.args.code.now.fields c.args.code.now.inputs c.args.code.now.arrays ops) made

pub returns-clause-count : goal.returns-clause-count
returns-clause-count c =
    let made : c.in_ok-ops.ops.items ≡ (merged c.args.code.now).ops = c.in_ok-ops.ensures ∙ ap₂ merged_ops c.fields.ensures.value c.ops.ensures.value in
    c.saturating_add-self.ensures ∙ ap (saturating_sum c.args.self.now.removed) (c.in_ok-new.ensures.gone ∙ ap (λ (ops : List Op). length c.args.code.now.ops - length ops) made)

use Rattle.std.proofs.lemmas.Grind.{common_steps}
use Rattle.std.proofs.Common.{◌≡◌, ◌-◌, ◌∷◌, ◌++◌, [], length, sym, ap, ap₂, ◌∙◌, rules, List, arith}
use Rattle.std.proofs.lemmas.List.{length-set}
use Rattle.lucid_code.specs.declared.op.Op.{Op}
use Rattle.lucid_code.specs.Parts.{CodeParts}
use Rattle.lucid_pass.proofs.RunLemmas.{stops, one_failed, one_ran, told_as, ap₂_le, on_err}
use Rattle.lucid_pass.proofs.run.run_passes_told.Goals as goal

pub returns-in_err-code-clause-names : goal.returns-in_err-code-clause-names
returns-in_err-code-clause-names g c =
    (one_failed _ _ _ _ _ c.loop-i.passes.items c.loop-i.code c.loop-i.told.items c.loop-i.i c.index_mut.result.now c.run_one.new.pass (search rules) c.index_mut.ensures.value c.loop-i.invariant.ran c.run_one.ensures.name c.run_one.ensures.same c.in_err-code.ensures.unchanged).names

pub returns-in_err-code-clause-same : goal.returns-in_err-code-clause-same
returns-in_err-code-clause-same g c =
    (one_failed _ _ _ _ _ c.loop-i.passes.items c.loop-i.code c.loop-i.told.items c.loop-i.i c.index_mut.result.now c.run_one.new.pass (search rules) c.index_mut.ensures.value c.loop-i.invariant.ran c.run_one.ensures.name c.run_one.ensures.same c.in_err-code.ensures.unchanged).same

pub returns-in_err-code-clause-stopped : goal.returns-in_err-code-clause-stopped
returns-in_err-code-clause-stopped g c =
    on_err _ (stops _ _ _ _ _ _ _ _ _ (search rules)
    (one_failed _ _ _ _ _ c.loop-i.passes.items c.loop-i.code c.loop-i.told.items c.loop-i.i c.index_mut.result.now c.run_one.new.pass (search rules) c.index_mut.ensures.value c.loop-i.invariant.ran c.run_one.ensures.name c.run_one.ensures.same c.in_err-code.ensures.unchanged))

pub returns-in_err-push-clause-names : goal.returns-in_err-push-clause-names
returns-in_err-push-clause-names g c =
    (one_ran _ _ _ _ _ c.loop-i.passes.items c.loop-i.code c.loop-i.told.items c.loop-i.i c.index_mut.result.now c.run_one.new.pass (search rules) c.index_mut.ensures.value c.loop-i.invariant.ran c.run_one.ensures.name c.run_one.ensures.same
    c.in_ok-code.code c.in_ok-code.ensures.gives c.in_ok-code.ensures.count c.ops-before.ensures.valid).names

pub returns-in_err-push-clause-same : goal.returns-in_err-push-clause-same
returns-in_err-push-clause-same g c =
    (one_ran _ _ _ _ _ c.loop-i.passes.items c.loop-i.code c.loop-i.told.items c.loop-i.i c.index_mut.result.now c.run_one.new.pass (search rules) c.index_mut.ensures.value c.loop-i.invariant.ran c.run_one.ensures.name c.run_one.ensures.same
    c.in_ok-code.code c.in_ok-code.ensures.gives c.in_ok-code.ensures.count c.ops-before.ensures.valid).same

pub returns-in_err-push-clause-stopped : goal.returns-in_err-push-clause-stopped
returns-in_err-push-clause-stopped g c =
    on_err _ (stops _ _ _ _ _ _ _ _ _ (search rules)
    (one_ran _ _ _ _ _ c.loop-i.passes.items c.loop-i.code c.loop-i.told.items c.loop-i.i c.index_mut.result.now c.run_one.new.pass (search rules) c.index_mut.ensures.value c.loop-i.invariant.ran c.run_one.ensures.name c.run_one.ensures.same
    c.in_ok-code.code c.in_ok-code.ensures.gives c.in_ok-code.ensures.count c.ops-before.ensures.valid))

pub gone-requires : goal.gone-requires
gone-requires g c =
    let gives = (goal.Pass-dyn g (c.index_mut.result.now.vtable, c.index_mut.result.now.value)).gives c.index_mut.result.now.value in
    ap₂_le (c.ops.ensures.value ∙ ap (λ (p : CodeParts). p.ops) c.in_ok-code.ensures.gives) c.ops-before.ensures.value (gives.keeps c.loop-i.code c.ops-before.ensures.valid).few

pub loop-i-preserved : goal.loop-i-preserved
loop-i-preserved g c =
    let ran = one_ran _ _ _ _ _ c.loop-i.passes.items c.loop-i.code c.loop-i.told.items c.loop-i.i c.index_mut.result.now c.run_one.new.pass (search rules) c.index_mut.ensures.value c.loop-i.invariant.ran c.run_one.ensures.name c.run_one.ensures.same
    c.in_ok-code.code c.in_ok-code.ensures.gives c.in_ok-code.ensures.count c.ops-before.ensures.valid in
    let n : c.gone.result ≡ length c.loop-i.code.ops - length c.in_ok-code.code.ops
    = c.gone.ensures ∙ ap₂ (λ (xs ys : List Op). length xs - length ys) c.ops-before.ensures.value c.ops.ensures.value in
    record {
      long = c.loop-i.invariant.long ∙ sym (length-set c.loop-i.passes.items c.loop-i.i c.run_one.new.pass);
      ran = told_as _ _ _ _ _ _ _ _ _ _ (c.in_ok-push.ensures.items ∙ ap (λ k. c.loop-i.told.items ++ k ∷ []) n) ran;
    }

pub same-code-in-loop-i : goal.same-code-in-loop-i
same-code-in-loop-i g c = grind (arith, common_steps)

pub returns-clause-gives : goal.returns-clause-gives
returns-clause-gives g c = grind (arith, common_steps)

pub returns-clause-told : goal.returns-clause-told
returns-clause-told g c = grind (arith, common_steps)

pub returns-clause-counts : goal.returns-clause-counts
returns-clause-counts g c = grind (arith, common_steps)

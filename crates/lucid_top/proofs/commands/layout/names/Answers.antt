use Rattle.std.proofs.Common.{◌<◌, List, ℕ, arith, length, ◌∷◌, [], ◌++◌, ap, map, take, sym, ◌∙◌}
use Rattle.lucid_top.proofs.Names.{names-next}
use Rattle.lucid_top.proofs.commands.layout.names.Goals as goal

pub loop-i-preserved : goal.loop-i-preserved
loop-i-preserved g c =
    let below : c.loop-i.i < length c.args.passes.now.items = omega (arith, c.loop-i-test.true, c.len-i-end.ensures) in
    c.in_ok-push.ensures.items ∙ ap (λ (l : List (List ℕ)). l ++ c.name_of.result ∷ []) c.loop-i.invariant ∙ ap (λ (n : List ℕ). map (λ b. (goal.Pass-dyn g (b.vtable, b.value)).called b.value) (take c.loop-i.i c.args.passes.now.items) ++ n ∷ []) c.name_of.ensures
    ∙ sym (names-next (λ b. (goal.Pass-dyn g (b.vtable, b.value)).called b.value) c.args.passes.now.items c.loop-i.i c.index.result.now below c.index.ensures)

use Rattle.std.proofs.Common.{add-one, ◌∙◌}
use Rattle.std.specs.HashMap.{get_by_text}
use Rattle.lucid_base.specs.declared.array.ArrayDef.{ArrayDef}
use Rattle.lucid_conf.proofs.LastNamed.{next}
use Rattle.lucid_conf.proofs.names.arrays_by_name.Goals as goal

pub loop-i-preserved : goal.loop-i-preserved
loop-i-preserved c = λ n.
    let i = c.loop-i.i in
    let found = get_by_text c.loop-i.names n in
    let e = next (λ (e : ArrayDef). e.name) n c.args.arrays.now i i found c.index-arrays-i.result c.loop-i-test.true in
    rw (add-one, c.in_ok-put.ensures n) (e ∙ c.loop-i.invariant n)

use Rattle.std.proofs.lemmas.Grind.{common_steps}
use Rattle.std.proofs.Common.{refl, arith}
use Rattle.std.proofs.lemmas.Result.{on_err_weaker}
use Rattle.lucid_io.proofs.Leaves.{Leaves-whole, Leaves-after, PutsPart-at, PutsPart-last, on_err}
use Rattle.lucid_layout_text.proofs.Puts.{whole}
use Rattle.lucid_layout_text.proofs.layout_text.LayoutText.put.Goals as goal

pub returns-in_err-put_counts-clause-part : goal.returns-in_err-put_counts-clause-part
returns-in_err-put_counts-clause-part g c =
    on_err _ (PutsPart-at _ Leaves-whole c.in_err-put_counts.ensures.part
    (whole c.self.inside.code.now c.self.inside.bits c.self.inside.nodes c.self.inside.lines.items c.ops.result.now _ _ c.self.view_is c.ops.ensures.value refl refl))

pub returns-clause-part : goal.returns-clause-part
returns-clause-part g c =
    on_err_weaker c.put_lines.result
    (λ cut. PutsPart-last
    (Leaves-after Leaves-whole c.in_ok-put_counts.ensures.all
    (whole c.self.inside.code.now c.self.inside.bits c.self.inside.nodes c.self.inside.lines.items c.ops.result.now c.arrays.result.now c.as_slice.result.now c.self.view_is c.ops.ensures.value c.arrays.ensures.value c.as_slice.ensures.value))
    cut refl)
    c.put_lines.ensures.part

pub returns-clause-all : goal.returns-clause-all
returns-clause-all g c = grind (arith, common_steps)

use Rattle.std.proofs.Common.{◌≡◌, ◌∙◌, List, length, sym, ap, subst}
use Rattle.lucid_code.specs.declared.op.Op.{Op}
use Rattle.lucid_layout_text.specs.Lines.{ArraysAreThere}
use Rattle.lucid_layout_text.specs.Text.{lines}
use Rattle.lucid_layout_text.proofs.ArraysThere.{lines_are_there}
use Rattle.lucid_layout_text.proofs.layout_text.LayoutText.new.Goals as goal

pub invariant_of-result : goal.invariant_of-result
invariant_of-result c =
    let code = c.code-code.result.now in
    let are : c.in_ok-lines.lines.items ≡ lines code.ops c.stages.result.now =
    c.in_ok-lines.ensures ∙ ap (λ (ops : List Op). lines ops c.stages.result.now) c.ops.ensures.value in
    subst (ArraysAreThere (length code.arrays)) (sym are) (lines_are_there code c.stages.result.now c.ops.ensures.valid)

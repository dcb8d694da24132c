use Rattle.std.proofs.Common.{◌++◌, ◌∙◌, ap, string_bytes}
use Rattle.lucid_gen.specs.Program.{array, array_line}
use Rattle.lucid_gen.proofs.Texts.{none_written, one_more}
use Rattle.lucid_gen.proofs.program.write_arrays.Goals as goal

pub loop-j-init : goal.loop-j-init
loop-j-init c = none_written array

pub loop-j-preserved : goal.loop-j-preserved
loop-j-preserved c =
    one_more array c.loop-j.invariant (c.in_ok-write_array.ensures ∙ ap (λ size. string_bytes c.loop-j.text ++ array_line c.loop-j.j size) c.draw_size.ensures.gives) c.draw_size.ensures.after

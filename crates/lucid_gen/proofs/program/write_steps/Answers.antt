use Rattle.std.proofs.Common.{◌++◌, ◌∙◌, ap, string_bytes}
use Rattle.lucid_gen.specs.Program.{call_line, step}
use Rattle.lucid_gen.proofs.Texts.{none_written, one_more}
use Rattle.lucid_gen.proofs.program.write_steps.Goals as goal

pub loop-q-init : goal.loop-q-init
loop-q-init c = none_written step

pub loop-q-preserved : goal.loop-q-preserved
loop-q-preserved c =
    one_more step c.loop-q.invariant (c.in_ok-write_call.ensures ∙ ap (λ call. string_bytes c.loop-q.text ++ call_line c.loop-q.q call) c.draw_call.ensures.gives) c.draw_call.ensures.after

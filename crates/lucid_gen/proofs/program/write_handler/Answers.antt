use Rattle.std.proofs.Common.{◌++◌, ◌∙◌, ap, codes, string_bytes}
use Rattle.lucid_gen.specs.Choices.{generated}
use Rattle.lucid_gen.specs.Program.{eight, generate_line, handler_line, step}
use Rattle.lucid_gen.proofs.Texts.{four_parts}
use Rattle.lucid_gen.proofs.program.write_handler.Goals as goal

pub returns : goal.returns
returns c =
    let steps = eight step c.args.numbers.now.state in
    let before = c.in_ok-write_steps.ensures in
    let generate = c.draw_generate.ensures.gives ∙ ap (λ state. (generated state).gives) before.after in
    record {
      gives = four_parts (string_bytes c.args.text.now) (handler_line c.args.j) steps.gives (generate_line (generated steps.after).gives) (codes "}\n")
          c.in_ok-writeln.ensures.bytes before.gives (c.in_ok-write_generate.ensures ∙ ap (λ g. string_bytes c.write_steps.new.text ++ generate_line g) generate)
          c.in_ok-writeln-2.ensures.bytes;
      after = c.draw_generate.ensures.after ∙ ap (λ state. (generated state).after) before.after;
    }

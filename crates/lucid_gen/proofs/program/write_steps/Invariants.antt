use Rattle.std.proofs.Common.{string_bytes}
use Rattle.lucid_gen.specs.Draws.{Writes}
use Rattle.lucid_gen.specs.Program.{step}
use Rattle.lucid_gen.proofs.Texts.{row}
use Rattle.lucid_gen.proofs.program.write_steps.Given as goal

abbrev pub invariant-loop-q : goal.invariant-loop-q
invariant-loop-q l = Writes (row l.q step) l.initial.numbers.state (string_bytes l.initial.text) l.numbers.state (string_bytes l.text)

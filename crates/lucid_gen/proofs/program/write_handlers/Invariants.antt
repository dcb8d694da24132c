use Rattle.std.proofs.Common.{string_bytes}
use Rattle.lucid_gen.specs.Draws.{Writes}
use Rattle.lucid_gen.specs.Program.{handler}
use Rattle.lucid_gen.proofs.Texts.{row}
use Rattle.lucid_gen.proofs.program.write_handlers.Given as goal

abbrev pub invariant-loop-j : goal.invariant-loop-j
invariant-loop-j l = Writes (row l.j handler) l.initial.numbers.state (string_bytes l.initial.text) l.numbers.state (string_bytes l.text)

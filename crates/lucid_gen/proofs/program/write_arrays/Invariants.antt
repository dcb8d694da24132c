use Rattle.std.proofs.Common.{string_bytes}
use Rattle.lucid_gen.specs.Draws.{Writes}
use Rattle.lucid_gen.specs.Program.{array}
use Rattle.lucid_gen.proofs.Texts.{row}
use Rattle.lucid_gen.proofs.program.write_arrays.Given as goal

abbrev pub invariant-loop-j : goal.invariant-loop-j
invariant-loop-j l = Writes (row l.j array) l.initial.numbers.state (string_bytes l.initial.text) l.numbers.state (string_bytes l.text)

use Rattle.std.proofs.Common.{Ok, rules}
use Rattle.lucid_top.specs.Check.{counts_line}
use Rattle.lucid_top_program.specs.Program.{IsProgram}
use Rattle.lucid_top_words.proofs.Parts.{Prepares-err, Prepares-ok, one-text}
use Rattle.lucid_top.proofs.commands.check.prepare.Goals as goal

pub returns-in_err-core : goal.returns-in_err-core
returns-in_err-core c = Prepares-err (IsProgram c.args.text.now) _ _ c.in_err-core.field-0.0 c.from_residual.result (search rules) c.in_err-core.ensures.program

pub returns : goal.returns
returns c = Prepares-ok (IsProgram c.args.text.now) _ counts_line c.in_ok-core.core (Ok c.in_ok-core.core) c.in_ok-core.ensures.program (one-text (counts_line c.in_ok-core.core))

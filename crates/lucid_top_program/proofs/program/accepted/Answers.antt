use Rattle.std.proofs.Common.{rules}
use Rattle.lucid_top_program.specs.Program.{IsSource}
use Rattle.lucid_top_program.specs.Source.{text_of}
use Rattle.lucid_top_words.proofs.Parts.{Prepares-err, Prepares-ok}
use Rattle.lucid_top_program.proofs.program.accepted.Goals as goal

pub returns-in_err-source-clause-program : goal.returns-in_err-source-clause-program
returns-in_err-source-clause-program c = Prepares-err (IsSource c.args.text.now) _ _ c.in_err-source.field-0.0 c.from_residual.result (search rules) c.in_err-source.ensures.source

pub returns-clause-program : goal.returns-clause-program
returns-clause-program c =
    Prepares-ok (IsSource c.args.text.now) _ _ (text_of c.args.text.now c.in_ok-source.source) c.accepted_source.result c.in_ok-source.ensures.source c.accepted_source.ensures.program

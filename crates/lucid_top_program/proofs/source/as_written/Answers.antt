use Rattle.std.proofs.Common.{List, Ok, subst}
use Rattle.lucid_lex.specs.declared.token.Token.{Token}
use Rattle.lucid_top_words.specs.Outcome.{IsTheAnswer}
use Rattle.lucid_top_program.specs.Program.{IsExpanded}
use Rattle.lucid_top_program.proofs.Sizes.{expanded}
use Rattle.lucid_top_program.proofs.source.as_written.Goals as goal

pub returns-clause-source : goal.returns-clause-source
returns-clause-source c =
    subst (λ (ts : List Token). IsTheAnswer (IsExpanded c.args.text.now ts) (Ok c.args.text.now)) c.as_slice-read.ensures.value
    (expanded c.args.text.now c.as_slice-read.result.now c.expansions_are_read.ensures.one c.args.text.now c.plain_text_stays.ensures c.requires.short)

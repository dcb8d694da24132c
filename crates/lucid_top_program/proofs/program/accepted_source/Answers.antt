use Rattle.std.proofs.Common.{Ok, sym, subst}
use Rattle.lucid_core.specs.Parts.{CoreParts}
use Rattle.lucid_top_words.specs.Outcome.{IsTheAnswer, Prepares}
use Rattle.lucid_top_words.proofs.Parts.{Prepares-ok}
use Rattle.lucid_top_program.specs.declared.source.Source.{Source}
use Rattle.lucid_top_program.specs.Program.{AreTokens, IsProgramFrom, IsRead}
use Rattle.lucid_top_program.specs.Source.{IsSourceOf, text_of}
use Rattle.lucid_top_program.proofs.program.accepted_source.Goals as goal

pub returns-in-AsWritten-clause-program : goal.returns-in-AsWritten-clause-program
returns-in-AsWritten-clause-program c =
    let text = c.args.text.now in
    let tokens = c.in-AsWritten.tokens.items in
    let is : IsTheAnswer (AreTokens text) (Ok tokens) = subst (IsSourceOf text) c.in-AsWritten.is c.requires in
    subst (λ (s : Source). Prepares (IsRead (text_of text s)) (λ (core : CoreParts). core) c.accepted_tokens.result) (sym c.in-AsWritten.is)
    (Prepares-ok (AreTokens text) (IsProgramFrom text) (λ (core : CoreParts). core) tokens c.accepted_tokens.result is c.accepted_tokens.ensures.program)

-- The source of a program's text, as the code holds it.
use Rattle.std.specs.Prelude.{Ok}
use Rattle.lucid_top_words.specs.Outcome.{IsTheAnswer}
use Rattle.lucid_top_words.specs.Words.{Bytes}
use Rattle.lucid_top_program.specs.Program.{AreTokens}
use Rattle.lucid_top_program.specs.declared.source.Source.{Source}
use Rattle.lucid_top_program.specs.declared.source.Source.TheVariants as source

-- its text, where this is the text that it was made of
abbrev pub text_of : Bytes → Source → Bytes
text_of text (source.AsWritten tokens) = text
text_of text (source.Expanded expanded) = expanded.items

-- the tokens that it keeps are those of the text, which has no others
abbrev pub IsSourceOf : Bytes → Source → Type 0
IsSourceOf text (source.AsWritten tokens) = IsTheAnswer (AreTokens text) (Ok tokens.items)
IsSourceOf text (source.Expanded expanded) = Unit {0}

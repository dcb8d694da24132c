-- The language without templates: a text in which none begins is read as it is.
use Rattle.std.specs.Prelude.{◌↔◌, Result}
use Rattle.lucid_core.specs.Parts.{CoreParts}
use Rattle.lucid_top_program.specs.Program.{IsProgram, IsRead}
use Rattle.lucid_top_words.specs.declared.refusal.Refusal.{Refusal}
use Rattle.lucid_top_words.specs.Words.{Bytes}

-- The program of the text, or the reason why it has none, is that of the language without templates, which reads the text itself.
abbrev pub IsPlain : Bytes → Type 0
IsPlain text = (o : Result CoreParts Refusal) → IsProgram text o ↔ IsRead text o

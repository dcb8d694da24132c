-- `expand P`: the text of a program in which functions over a width are expanded.
use Rattle.lucid_top_program.specs.Program.{IsSource}
use Rattle.lucid_top_words.specs.Outcome.{Outcome}
use Rattle.lucid_top_words.specs.Words.{Bytes}

abbrev pub ExpandAnswers : Bytes → Outcome → Type 0
ExpandAnswers text o = IsSource text o

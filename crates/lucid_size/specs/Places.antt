-- The positions of the parts of a text in it.
use Rattle.std.specs.Prelude.{ℕ, ◌+◌, ◌<◌, ◌≤◌, List, [], ◌∷◌, length}
use Rattle.lucid_lex.specs.declared.token.Token.{Token}
use Rattle.lucid_size.specs.declared.template.Template.{Template}
use Rattle.lucid_size.specs.declared.step.Step.{Step}

-- the step's bytes are in the text
pub record InText (text : List ℕ) (s : Step) : Type 0 where
  pub gap : s.from ≤ s.token.span.start
  pub token : s.token.span.start ≤ s.token.span.end
  pub within : s.token.span.end ≤ length text

-- the template's tokens follow one another
pub record IsWhole (ts : List Token) (t : Template) : Type 0 where
  pub name : t.first + 4 ≤ t.name
  pub end : t.name < t.end
  pub within : t.end ≤ length ts

-- the templates follow one another, from this token on
abbrev pub AreInOrder : List Token → ℕ → List Template → Type 0
AreInOrder ts i [] = i ≤ length ts
AreInOrder ts i (x ∷ xs) = (i ≤ x.first) × IsWhole ts x × AreInOrder ts x.end xs

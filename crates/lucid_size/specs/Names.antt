-- The names of the templates, and the meaning of an error for the first that occurs twice.
use Rattle.std.specs.Prelude.{◌≡◌, ℕ, List, [], Option, None, Some, Ok}
use Rattle.lucid_lex.specs.declared.token.Token.{Token}
use Rattle.lucid_size.specs.declared.error.SizeError.{SizeError}
use Rattle.lucid_size.specs.declared.error.SizeError.TheVariants as errors
use Rattle.lucid_size.specs.declared.template.Template.{Template}
use Rattle.lucid_size.specs.Expansion.{first_repeat}
use Rattle.lucid_size.specs.Parts.{names_of}
use Rattle.lucid_size.specs.Templates.{templates}

-- the names of the text's templates, no two the same
pub record AreNames (text : List ℕ) (ts : List Token) (xs : List Template) (names : List (List ℕ)) : Type 0 where
  pub whole : templates ts ≡ Ok xs
  pub are : names ≡ names_of text ts xs
  pub distinct : first_repeat [] (names_of text ts xs) ≡ None

abbrev pub Repeats : Option (List ℕ) → SizeError → Type 0
Repeats o (errors.Twice name) = o ≡ Some name
Repeats o (errors.Broken n) = ⊥
Repeats o errors.TooBig = ⊥
Repeats o errors.Memory = Unit {0}

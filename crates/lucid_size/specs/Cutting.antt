-- The state of the search for templates: those found, and why one isn't taken.
use Rattle.std.specs.Prelude.{◌≡◌, ℕ, ◌+◌, List, ◌++◌, Option, None, Ok, Err}
use Rattle.lucid_size.specs.declared.template.Template.{Template}
use Rattle.lucid_size.specs.declared.error.SizeError.{SizeError}
use Rattle.lucid_size.specs.Templates.{Cut}
use Rattle.lucid_size.specs.declared.error.SizeError.TheVariants as errors

-- templates that were found before these
abbrev pub before_those : List Template → Cut → Cut
before_those xs (Ok ys) = Ok (xs ++ ys)
before_those xs (Err n) = Err n

-- the meaning of an error for the templates
abbrev pub Tells : Cut → SizeError → Type 0
Tells c (errors.Broken n) = c ≡ Err n
Tells c (errors.Twice name) = ⊥
Tells c errors.TooBig = ⊥
Tells c errors.Memory = Unit {0}

-- why the template that begins at this token isn't taken
abbrev pub Fails : Option Template → ℕ → SizeError → Type 0
Fails o at errors.Memory = Unit {0}
Fails o at (errors.Broken n) = (o ≡ None) × (n ≡ at + 1)
Fails o at errors.TooBig = ⊥
Fails o at (errors.Twice name) = ⊥

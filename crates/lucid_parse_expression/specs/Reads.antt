-- The result of a function is the reading, unless memory ran out.
use Rattle.std.specs.Prelude.{◌≡◌, Option, Some, None, Result, Ok, Err}
use Rattle.lucid_parse_expression.specs.declared.error.Stop.{Stop}
use Rattle.lucid_parse_expression.specs.declared.error.Stop.TheVariants as stops
use Rattle.lucid_parse_expression.specs.declared.tokens.Tokens.{Tokens}
use Rattle.lucid_parse_expression.specs.Tokens.{said}
use Rattle.lucid_lex.specs.declared.sign.Sign.{Sign}
use Rattle.lucid_parse_spec.specs.Reader.{Text, Outcome, Parser, after}

abbrev pub Fails : {X : Type 0} → Stop → Option X → Type 0
Fails stops.NoTree o = o ≡ None
Fails stops.Memory o = Unit {0}

-- a part that is read, and the rest after it
abbrev pub Reads : {A : Type 0} → Result (A × Tokens) Stop → Outcome A → Type 0
Reads (Ok x) o = o ≡ Some (x.0, said x.1)
Reads (Err e) o = Fails e o

-- the same for a node made of read parts
abbrev pub Gives : {A : Type 0} → Result A Stop → Option A → Type 0
Gives (Ok x) o = o ≡ Some x
Gives (Err e) o = Fails e o

-- the same for skipped tokens
abbrev pub Leaves : Result Tokens Stop → Option Text → Type 0
Leaves (Ok x) o = o ≡ Some (said x)
Leaves (Err e) o = Fails e o

-- the result of a function for any tokens is the reading of these tokens
abbrev pub ReadsAll : {A : Type 0} → (Tokens → Result (A × Tokens) Stop → Type 0) → Parser A → Type 0
ReadsAll {A} returns reads = (tokens : Tokens) (answer : Result (A × Tokens) Stop) → returns tokens answer → Reads answer (reads (said tokens))

-- the part that was read, if the sign follows it
abbrev pub Ends : {A : Type 0} → Sign → A × Tokens → Result (A × Tokens) Stop → Type 0
Ends sign x (Ok y) = (y.0 ≡ x.0) × (after sign (said x.1) ≡ Some (said y.1))
Ends sign x (Err e) = Fails e (after sign (said x.1))

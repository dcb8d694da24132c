-- The parts of a text: the steps of each template's body, the steps outside all templates, and blanks and comments.
use Rattle.std.specs.Prelude.{ℕ, zero, suc, ◌+◌, List, [], ◌∷◌, ◌++◌, length, map, Option, Some, None, slice_get, slice_range}
use Rattle.lucid_lex.specs.declared.token.Token.{Token}
use Rattle.lucid_lex.specs.Piece.{Piece}
use Rattle.lucid_lex.specs.Reading.{bytes_of}
use Rattle.lucid_size.specs.declared.template.Template.{Template}
use Rattle.lucid_size.specs.declared.step.Step.{Step}
use Rattle.lucid_size.specs.Steps.{Width, steps_from}
use Rattle.lucid_size.specs.Pieces.{gap}
use Rattle.lucid_size.specs.declared.step.Form.TheVariants as forms

-- where a token ends
abbrev pub end_of : Option Token → ℕ
end_of None = 0
end_of (Some t) = t.span.end

-- where the token before this one ends
abbrev pub end_before : ℕ → List Token → ℕ
end_before zero ts = 0
end_before (suc i) ts = end_of (slice_get ts i)

-- where a token begins; the end of the text, where there is none
abbrev pub start_of : List ℕ → Option Token → ℕ
start_of text None = length text
start_of text (Some t) = t.span.start

-- the blanks and comments before the token of this number, or at the end of the text
abbrev pub gap_before : List ℕ → List Token → ℕ → Piece
gap_before text ts i = gap (slice_range text (end_before i ts) (start_of text (slice_get ts i)))

-- the bytes of a token, if there is one
abbrev pub bytes_in : List ℕ → Option Token → List ℕ
bytes_in text None = []
bytes_in text (Some t) = bytes_of text t

-- the bytes of the token of this number
abbrev pub bytes_at : List ℕ → List Token → ℕ → List ℕ
bytes_at text ts i = bytes_in text (slice_get ts i)

-- the name of a template
abbrev pub name_of : List ℕ → List Token → Template → List ℕ
name_of text ts t = bytes_at text ts t.name

abbrev pub names_of : List ℕ → List Token → List Template → List (List ℕ)
names_of text ts xs = map (name_of text ts) xs

-- the steps of the tokens from one number up to another
abbrev pub steps_between : List ℕ → List (List ℕ) → Width → List Token → ℕ → ℕ → List Step
steps_between text names width ts i j = steps_from text names width (end_before i ts) 0 (slice_range ts i j)

-- the step of a template's own name
abbrev pub named : List Token → ℕ → List Step
named ts i = map (λ t. record { from = end_before i ts; token = t; form = forms.Named }) (slice_range ts i (i + 1))

-- the steps of a template's tokens after its first `>>`
abbrev pub body_steps : List ℕ → List (List ℕ) → List Token → Template → List Step
body_steps text names ts t =
    let width : Width = Some (bytes_at text ts (t.first + 2)) in
    steps_between text names width ts (t.first + 4) t.name ++ (named ts t.name ++ steps_between text names width ts (t.name + 1) t.end)

-- the body of a template, if it is there
abbrev pub steps_in : List ℕ → List (List ℕ) → List Token → Option Template → List Step
steps_in text names ts None = []
steps_in text names ts (Some t) = body_steps text names ts t

-- the steps outside the templates, from this token on
abbrev pub outside_from : List ℕ → List (List ℕ) → List Token → ℕ → List Template → List Step
outside_from text names ts i [] = steps_between text names None ts i (length ts)
outside_from text names ts i (x ∷ xs) = steps_between text names None ts i x.first ++ outside_from text names ts x.end xs

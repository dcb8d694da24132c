-- The replacements of the tokens of a part of a text, a template or the text outside all templates: a use of a template is replaced,
-- within a template its width too, and all other tokens stay. A step is a token with the bytes before it.
use Rattle.std.specs.Prelude.{ℕ, zero, suc, Bool, true, false, ◌&&◌, if◌then◌else◌, List, [], ◌∷◌, Option, Some, None, bytes_eq, position}
use Rattle.lucid_lex.specs.declared.token.Kind.{Kind}
use Rattle.lucid_lex.specs.declared.token.Kind.TheVariants as kinds
use Rattle.lucid_lex.specs.declared.token.Token.{Token}
use Rattle.lucid_lex.specs.Reading.{bytes_of}
use Rattle.lucid_size.specs.declared.step.Step.{Step}
use Rattle.lucid_size.specs.declared.step.Form.{Form}
use Rattle.lucid_size.specs.declared.step.Form.TheVariants as forms
use Rattle.lucid_size.specs.Kinds.{closes_width, is_name, opens_paren, opens_width}

-- the name of the width, within a template
abbrev pub Width : Type 0
Width = Option (List ℕ)

-- the token is the name of the width
abbrev pub is_width : List ℕ → Width → Token → Bool
is_width text None t = false
is_width text (Some w) t = is_name t.kind && bytes_eq (bytes_of text t) w

-- The size of a use by the token between its `<<` and `>>`: this number, or, for `Some None`, the width. Otherwise it is no use.
abbrev pub size_by : Bool → Kind → Option (Option ℕ)
size_by own (kinds.Number n) = Some (Some n)
size_by own k = if own then Some None else None

-- the size that this token is
abbrev pub size_of : List ℕ → Width → Token → Option (Option ℕ)
size_of text width t = size_by (is_width text width t) t.kind

-- the number of the template with this name
abbrev pub template_of : List (List ℕ) → List ℕ → Option ℕ
template_of names name = position (bytes_eq name) names

-- a use of this template at this size, where there are both
abbrev pub use_by : Option ℕ → Option (Option ℕ) → Option Form
use_by (Some k) (Some size) = Some (forms.Use k size)
use_by k size = None

-- a template's name, `<<`, a size, `>>` and `(`
abbrev pub use_at : List ℕ → List (List ℕ) → Width → List Token → Option Form
use_at text names width (f ∷ a ∷ n ∷ b ∷ p ∷ ts) =
    if is_name f.kind && (opens_width a.kind && (closes_width b.kind && opens_paren p.kind))
    then use_by (template_of names (bytes_of text f)) (size_of text width n)
    else None
use_at text names width ts = None

-- `<< w >>`, with the name of the width
abbrev pub width_at : List ℕ → Width → List Token → Bool
width_at text width (a ∷ w ∷ b ∷ ts) = opens_width a.kind && (is_width text width w && closes_width b.kind)
width_at text width ts = false

-- a use, or else a width, or else the token stays
abbrev pub or_width : Bool → Option Form → Form
or_width width (Some form) = form
or_width true None = forms.Width
or_width false None = forms.Kept

-- the replacement of the first token
abbrev pub form_at : List ℕ → List (List ℕ) → Width → List Token → Form
form_at text names width ts = or_width (width_at text width ts) (use_at text names width ts)

-- how many tokens behind the first go with it
abbrev pub more_of : Form → ℕ
more_of forms.Kept = 0
more_of forms.Width = 2
more_of forms.Named = 0
more_of (forms.Use k size) = 4

-- The steps of these tokens, if the one before them ends at this offset, and this many of them are still part of an earlier step.
abbrev pub steps_from : List ℕ → List (List ℕ) → Width → ℕ → ℕ → List Token → List Step
steps_from text names width at more [] = []
steps_from text names width at (suc more) (t ∷ ts) = steps_from text names width t.span.end more ts
steps_from text names width at zero (t ∷ ts) =
    record { from = at; token = t; form = form_at text names width (t ∷ ts) }
    ∷ steps_from text names width t.span.end (more_of (form_at text names width (t ∷ ts))) ts

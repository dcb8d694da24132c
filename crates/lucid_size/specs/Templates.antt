-- Which tokens of a text are templates: outside all brackets `fun << w >>` with a name `w`, a name that `(` follows, and a body in
-- braces. Tokens are counted from 0.
use Rattle.std.specs.Prelude.{ℕ, zero, suc, ◌+◌, ◌-◌, ◌==◌, ◌&&◌, if◌then◌else◌, Bool, false, List, [], ◌∷◌, drop, Option, Some, None, Result, Ok, Err}
use Rattle.lucid_lex.specs.declared.token.Token.{Token}
use Rattle.lucid_size.specs.declared.template.Template.{Template}
use Rattle.lucid_size.specs.Kinds.{is_fun, is_name, opens_width, closes_width, opens_paren, opens_brace, closes_brace, open_after}

-- `fun << w >>`, with a name `w`
abbrev pub begins_template : List Token → Bool
begins_template (f ∷ a ∷ w ∷ b ∷ ts) = is_fun f.kind && (opens_width a.kind && (is_name w.kind && closes_width b.kind))
begins_template ts = false

-- The number of the first name that `(` follows, among the tokens before the first `{`; the first of these tokens has the number `i`.
abbrev pub name_from : ℕ → List Token → Option ℕ
name_from i [] = None
name_from i (t ∷ []) = None
name_from i (t ∷ u ∷ ts) =
    if opens_brace t.kind then None
    else if is_name t.kind && opens_paren u.kind then Some i
    else name_from (i + 1) (u ∷ ts)

-- The number of the token after the `}` that closes the first `{`, if this many braces are open.
abbrev pub end_from : ℕ → ℕ → List Token → Option ℕ
end_from i n [] = None
end_from i n (t ∷ ts) =
    if opens_brace t.kind then end_from (i + 1) (n + 1) ts
    else if closes_brace t.kind && n == 1 then Some (i + 1)
    else if closes_brace t.kind then end_from (i + 1) (n - 1) ts
    else end_from (i + 1) n ts

-- the template with this `fun`, where it has a name and an end
abbrev pub template_by : ℕ → Option ℕ → Option ℕ → Option Template
template_by i None end = None
template_by i (Some name) None = None
template_by i (Some name) (Some end) = Some (record { first = i; name = name; end = end })

-- the template whose `fun` has this number and is the first of these tokens
abbrev pub template_at : ℕ → List Token → Option Template
template_at i ts = template_by i (name_from (i + 4) (drop 4 ts)) (end_from (i + 4) 0 (drop 4 ts))

-- the templates, or the number from 1 of the `fun` of the first that is broken
abbrev pub Cut : Type 0
Cut = Result (List Template) ℕ

-- the template, and those behind it
abbrev pub behind : Template → Cut → Cut
behind t (Ok ts) = Ok (t ∷ ts)
behind t (Err n) = Err n

-- the template at this `fun`, if it is whole, and those behind it
abbrev pub and_then : ℕ → Option Template → Cut → Cut
and_then i None later = Err (i + 1)
and_then i (Some t) later = behind t later

-- how many tokens behind its `fun` a template has
abbrev pub more_of : ℕ → Option Template → ℕ
more_of i None = 0
more_of i (Some t) = t.end - (i + 1)

-- The templates among these tokens, of which the first has this number; this many brackets are open before it, and this many tokens are
-- still part of an earlier template.
abbrev pub templates_from : ℕ → ℕ → ℕ → List Token → Cut
templates_from i opened more [] = Ok []
templates_from i opened (suc more) (t ∷ ts) = templates_from (i + 1) (open_after opened t.kind) more ts
templates_from i opened zero (t ∷ ts) =
    if opened == 0 && begins_template (t ∷ ts)
    then and_then i (template_at i (t ∷ ts)) (templates_from (i + 1) opened (more_of i (template_at i (t ∷ ts))) ts)
    else templates_from (i + 1) (open_after opened t.kind) 0 ts

-- the templates of a text
abbrev pub templates : List Token → Cut
templates ts = templates_from 0 0 0 ts

-- The bytes that are written behind a token, and how many bytes are written of steps and of instances.
use Rattle.std.specs.Prelude.{ℕ, ◌+◌, ◌-◌, List, [], ◌++◌, length, codes, decimal, unwrap_or}
use Rattle.std.specs.List.{sum_by}
use Rattle.lucid_size.specs.declared.step.Form.{Form}
use Rattle.lucid_size.specs.declared.step.Instance.{Instance}
use Rattle.lucid_size.specs.declared.step.Step.{Step}
use Rattle.lucid_size.specs.Suffix.{suffix}
use Rattle.lucid_size.specs.Search.{body_in}
use Rattle.lucid_size.specs.declared.step.Form.TheVariants as forms

-- the text after a token
abbrev pub form_bytes : ℕ → ℕ → Form → List ℕ
form_bytes m width forms.Kept = []
form_bytes m width forms.Width = decimal width ++ codes ">>"
form_bytes m width forms.Named = suffix m width
form_bytes m width (forms.Use k size) = suffix m (unwrap_or size width) ++ codes "("

-- how many bytes are written behind a token
abbrev pub form_len : ℕ → ℕ → Form → ℕ
form_len m width forms.Kept = 0
form_len m width forms.Width = length (decimal width) + 2
form_len m width forms.Named = m + length (decimal width)
form_len m width (forms.Use k size) = m + length (decimal (unwrap_or size width)) + 1

-- how many bytes a step has in the instance of a width
abbrev pub step_len : ℕ → ℕ → Step → ℕ
step_len m width s = (s.token.span.end - s.from) + form_len m width s.form

-- how many bytes the steps have in the instance of a width
abbrev pub steps_len : ℕ → ℕ → List Step → ℕ
steps_len m width ss = sum_by (step_len m width) ss

-- how many bytes an instance has: `fun`, a blank and a body
abbrev pub instance_len : ℕ → List (List Step) → Instance → ℕ
instance_len m bodies i = 4 + steps_len m i.width (body_in bodies i.template)

-- The meaning of an error. Only contracts inside this crate cite this page.
use Rattle.std.specs.Prelude.{ℕ, ◌+◌, ◌<◌, List}
use Rattle.std.specs.List.{sum_by}
use Rattle.lucid_lex.specs.declared.token.Token.{Token}
use Rattle.lucid_size.specs.declared.error.SizeError.{SizeError}
use Rattle.lucid_size.specs.declared.error.SizeError.TheVariants as errors
use Rattle.lucid_size.specs.declared.step.Instance.{Instance}
use Rattle.lucid_size.specs.declared.step.Step.{Step}
use Rattle.lucid_size.specs.Bytes.{instance_len}
use Rattle.lucid_size.specs.Expansion.{IsBroken, IsTooBig, IsTwice}
use Rattle.lucid_size.specs.Search.{AreUsed}

-- why the text has no expansion
abbrev pub Refuses : List ℕ → List Token → SizeError → Type 0
Refuses text ts (errors.Broken n) = IsBroken ts n
Refuses text ts (errors.Twice name) = IsTwice text ts name
Refuses text ts errors.TooBig = IsTooBig text ts
Refuses text ts errors.Memory = Unit {0}

-- the used instances and this many bytes more do not fit into the room
abbrev pub NeedsMore : ℕ → ℕ → ℕ → List Step → List (List Step) → SizeError → Type 0
NeedsMore room more m outside bodies errors.TooBig = (found : List Instance) → AreUsed outside bodies found → room < more + sum_by (instance_len m bodies) found
NeedsMore room more m outside bodies (errors.Broken n) = ⊥
NeedsMore room more m outside bodies (errors.Twice name) = ⊥
NeedsMore room more m outside bodies errors.Memory = Unit {0}

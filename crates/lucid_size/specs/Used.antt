-- Which instances are used, each a template and a width.
use Rattle.std.specs.Prelude.{ℕ, List, [], ◌∷◌, unwrap_or}
use Rattle.std.specs.List.{Contains, flat_map}
use Rattle.lucid_size.specs.declared.step.Form.{Form}
use Rattle.lucid_size.specs.declared.step.Instance.{Instance}
use Rattle.lucid_size.specs.declared.step.Step.{Step}
use Rattle.lucid_size.specs.declared.step.Form.TheVariants as forms

-- the instance that a form uses, in the instance of a width
abbrev pub use_of : ℕ → Form → List Instance
use_of width (forms.Use k size) = record { template = k; width = unwrap_or size width } ∷ []
use_of width form = []

-- the uses in an instance of this width
abbrev pub uses : ℕ → List Step → List Instance
uses width ss = flat_map (λ s. use_of width s.form) ss

-- The least set that has the uses outside all templates and the uses in each of its own instances.
pub data Used (outside : List Step) (body : ℕ → List Step) : ℕ → ℕ → Type 0 where
  Outside : (k n : ℕ) → Contains (uses 0 outside) (record { template = k; width = n }) → Used outside body k n
  Within : (j w k n : ℕ) → Used outside body j w → Contains (uses w (body j)) (record { template = k; width = n }) → Used outside body k n

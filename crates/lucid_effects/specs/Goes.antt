-- A function of the check does a walk. Only contracts inside this crate cite this page.
use Rattle.std.specs.Prelude.{◌≡◌, ℕ, ◌≤◌, Result, Ok, Err}
use Rattle.lucid_base.specs.declared.memory.Memory.{Memory}
use Rattle.lucid_effects_spec.specs.declared.scheme.Scheme.{Scheme}
use Rattle.lucid_effects_spec.specs.Schemes.{Walked}

abbrev pub walked : Scheme → ℕ → Walked
walked s steps = record { needs = s.needs; ends = s.ends; steps = steps }

-- It finds the result of the walk, in its steps. If memory ran out, it took no more than these.
abbrev pub Goes : {A : Type 0} → Walked → Walked → Result A Memory → Type 0
Goes there here (Ok x) = here ≡ there
Goes there here (Err e) = here.steps ≤ there.steps

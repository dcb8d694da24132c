-- How many steps the checks of a program's functions, or handlers, take. Only contracts inside this crate cite this page.
use Rattle.std.specs.Prelude.{◌≡◌, ◌≤◌, ℕ, ◌+◌, ◌*◌, List, length}
use Rattle.lucid_core.specs.declared.defs.FunDef.{FunDef}
use Rattle.lucid_core.specs.declared.defs.HandlerDef.{HandlerDef}
use Rattle.lucid_core.specs.Parts.{CoreParts}
use Rattle.lucid_core.specs.Valid.{IsSound}
use Rattle.lucid_effects_spec.specs.Size.{fun_nodes, handler_nodes}
use Rattle.lucid_effects_spec.specs.declared.scheme.Scheme.{Scheme}
use Rattle.lucid_effects_spec.specs.SchemeLaws.{steps_a_node}
use Rattle.lucid_effects_spec.specs.Schemes.{schemes_of}

-- For the functions of any valid program with this many arrays.
abbrev pub FunsTake : ℕ → List FunDef → ℕ → ℕ → Type 0
FunsTake arrays funs old new = (parts : CoreParts) → IsSound parts → parts.funs ≡ funs → length parts.arrays ≡ arrays →
    new ≤ old + fun_nodes funs * steps_a_node arrays

-- Of its handlers, behind its functions with these schemes.
abbrev pub HandlersTake : ℕ → List Scheme → List HandlerDef → ℕ → ℕ → Type 0
HandlersTake arrays schemes handlers old new = (parts : CoreParts) → IsSound parts → schemes ≡ schemes_of parts.funs → parts.handlers ≡ handlers →
    length parts.arrays ≡ arrays → new ≤ old + handler_nodes handlers * steps_a_node arrays

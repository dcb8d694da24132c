-- The laws of the order of arrays for a program.
use Rattle.std.specs.Prelude.{◌≡◌, ◌<◌, ◌↔◌, ℕ, ◌+◌, ◌≤◌, List, [], ◌∷◌, Some, All, AllPairs, Any, Contains, length, map, slice_get}
use Rattle.lucid_base.specs.declared.array.ArrayName.{ArrayName}
use Rattle.lucid_base.specs.declared.array.ArrayName.TheVariants.{Global, Param}
use Rattle.lucid_base.specs.declared.event.Event.{Event}
use Rattle.lucid_core.specs.declared.body.Stmt.{Stmt}
use Rattle.lucid_core.specs.declared.defs.FunDef.{FunDef}
use Rattle.lucid_core.specs.declared.defs.HandlerDef.{HandlerDef}
use Rattle.lucid_core.specs.Computations.{array_of}
use Rattle.lucid_core.specs.Parts.{CoreParts}
use Rattle.lucid_core.specs.Step.{handler_of, touches}
use Rattle.lucid_effects_spec.specs.Cycle.{IsCycle}
use Rattle.lucid_effects_spec.specs.Ends.{Numbering, Derives, body_end, ends_of}
use Rattle.lucid_effects_spec.specs.Order.{InOrder}
use Rattle.lucid_effects_spec.specs.Paths.{Path, paths}

-- Every event calls each array at most once, in the order of their declarations.
abbrev pub TouchesRise : CoreParts → Type 0
TouchesRise parts = (cells : List (List ℕ)) (now me : ℕ) (event : Event) → AllPairs (λ a b. a < b) (touches parts cells now me event)

-- Each declared array has its own number.
abbrev pub own_numbers : Numbering
own_numbers = array_of []

-- A handler is in order exactly where its body has a derivation with each array's own number.
abbrev pub OwnNumbersDecide : CoreParts → Type 0
OwnNumbersDecide parts = (k : ℕ) (h : HandlerDef) → slice_get parts.handlers k ≡ Some h →
    InOrder (length parts.arrays) parts.funs h.body ↔ ((end : ℕ) × Derives parts.funs own_numbers 0 h.body end)

-- The same numbers at the declared arrays, at this many array parameters, and at array 0, which replaces a missing argument.
pub record Agree (arrays params : ℕ) (N M : Numbering) : Type 0 where
  pub first : N (Global 0) ≡ M (Global 0)
  pub declared : (i : ℕ) → i < arrays → N (Global i) ≡ M (Global i)
  pub given : (i : ℕ) → i < params → N (Param i) ≡ M (Param i)

-- Where a handler ends turns on the numbers of the declared arrays alone.
abbrev pub EndsTurnOnDeclared : CoreParts → Type 0
EndsTurnOnDeclared parts = (k : ℕ) (h : HandlerDef) → slice_get parts.handlers k ≡ Some h → (N M : Numbering) → Agree (length parts.arrays) 0 N M →
    (c : ℕ) → body_end h.body (ends_of parts.funs) N c ≡ body_end h.body (ends_of parts.funs) M c

-- Along this path the numbering rises: each call needs a place that isn't beyond its array's number, and leaves the one behind it.
abbrev pub RisesAlong : Numbering → ℕ → Path → Type 0
RisesAlong N c [] = Unit {0}
RisesAlong N c (a ∷ path) = (c ≤ N a) × RisesAlong N (N a + 1) path

-- Where the path ends: behind the last array that it calls, or where it began.
abbrev pub path_end : Numbering → ℕ → Path → ℕ
path_end N c [] = c
path_end N c (a ∷ path) = path_end N (N a + 1) path

-- A body has a derivation exactly where the numbering rises along each of its paths.
abbrev pub PathsDecide : Type 0
PathsDecide = (funs : List FunDef) (body : List Stmt) (N : Numbering) (c : ℕ) → ((end : ℕ) × Derives funs N c body end) ↔ All (RisesAlong N c) (paths funs body)

-- It ends at the greatest place at which one of them ends.
abbrev pub EndsAreGreatest : Type 0
EndsAreGreatest = (funs : List FunDef) (body : List Stmt) (N : Numbering) (c end : ℕ) → Derives funs N c body end →
    All (λ p. path_end N c p ≤ end) (paths funs body) × Any (λ p. path_end N c p ≡ end) (paths funs body)

-- A body that has a cycle is not in order.
abbrev pub CyclesRefuse : Type 0
CyclesRefuse = (arrays : ℕ) (funs : List FunDef) (body : List Stmt) (first : ArrayName) (others : List ArrayName) → IsCycle arrays (paths funs body) first others → ¬ InOrder arrays funs body

-- The calls of an event are one of the paths of its handler.
abbrev pub TouchesFollowPaths : Type 0
TouchesFollowPaths = (parts : CoreParts) (cells : List (List ℕ)) (now me : ℕ) (event : Event) (h : HandlerDef) → handler_of parts event.id ≡ Some h →
    Contains (map (map (array_of [])) (paths parts.funs h.body)) (touches parts cells now me event)

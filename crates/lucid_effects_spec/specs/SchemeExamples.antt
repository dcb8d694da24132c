-- Bodies whose schemes were worked by hand: those of lucid_effects_spec's examples, over two arrays and the function `bump`.
use Rattle.std.specs.Prelude.{◌≡◌, ℕ, List, [], ◌∷◌, true, false}
use Rattle.lucid_base.specs.declared.array.ArrayName.{ArrayName}
use Rattle.lucid_base.specs.declared.array.ArrayName.TheVariants.{Param}
use Rattle.lucid_core.specs.declared.body.Stmt.{Stmt}
use Rattle.lucid_core.specs.declared.defs.FunDef.{FunDef}
use Rattle.lucid_core.specs.ExamplePrograms.{bumps, choose, yes}
use Rattle.lucid_constraints.specs.declared.pair.Atom.{Atom}
use Rattle.lucid_constraints.specs.declared.pair.Atom.TheVariants.{Start, After}
use Rattle.lucid_constraints.specs.declared.pair.Pair.{Pair}
use Rattle.lucid_effects_spec.specs.Examples.{at_index, bump_at, bump_both, calls, first, funs, group_first, if_then, in_turn, relay_both, second, sent, with_relay}
use Rattle.lucid_effects_spec.specs.Schemes.{begun, body_found, schemes_of}

-- The array is called from the start, or behind another.
abbrev pub from_start : ArrayName → Pair
from_start a = record { atom = Start; array = a }

abbrev pub behind : ArrayName → ArrayName → Pair
behind a b = record { atom = After a; array = b }

abbrev pub Finds : List FunDef → List Stmt → List Pair → List Atom → ℕ → Type 0
Finds before body needs ends steps = body_found body (schemes_of before) (begun 0) ≡ record { needs = needs; ends = ends; steps = steps }

-- A call of an array is 6 nodes, and a step for each pair that it gives.
pub record SchemeExamples : Type 0 where
  pub nothing : Finds funs [] [] (Start ∷ []) 1
  pub one_after_another : Finds funs (in_turn second first) (from_start second ∷ behind second first ∷ []) (After first ∷ []) 15
  pub twice : Finds funs (in_turn first first) (from_start first ∷ behind first first ∷ []) (After first ∷ []) 15
  pub both_ends : Finds funs (choose yes (calls first ∷ []) [] ∷ []) (from_start first ∷ []) (After first ∷ Start ∷ []) 10
  pub behind_both_ends : Finds funs (if_then (calls first ∷ []) [] second) (from_start first ∷ behind first second ∷ from_start second ∷ []) (After second ∷ []) 18
  pub no_repeats : Finds funs (if_then (calls first ∷ []) (calls first ∷ []) second) (from_start first ∷ behind first second ∷ []) (After second ∷ []) 24
  pub index_first : Finds funs (at_index second first) (from_start first ∷ behind first second ∷ []) (After second ∷ []) 13
  pub target_first : Finds funs (sent false) (from_start second ∷ behind second first ∷ []) (After first ∷ []) 16
  pub delay_first : Finds funs (sent true) (from_start first ∷ behind first second ∷ []) (After second ∷ []) 16
  pub of_a_function : Finds [] bumps (from_start (Param 0) ∷ []) (After (Param 0) ∷ []) 10
  pub of_its_calls : Finds funs (bump_both second first) (from_start second ∷ behind second first ∷ []) (After first ∷ []) 9
  pub of_an_argument : Finds funs (bump_at second first) (from_start first ∷ behind first second ∷ []) (After second ∷ []) 10
  pub of_a_relay : Finds with_relay (relay_both second first) (from_start second ∷ behind second first ∷ []) (After first ∷ []) 9
  pub of_a_group : Finds funs group_first (from_start second ∷ behind second first ∷ []) (After first ∷ []) 17
  pub of_parameters : Finds funs (in_turn (Param 1) (Param 0)) (from_start (Param 1) ∷ behind (Param 1) (Param 0) ∷ []) (After (Param 0) ∷ []) 15

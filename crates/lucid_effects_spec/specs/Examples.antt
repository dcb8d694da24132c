-- Bodies whose order, paths and size were worked by hand, over two arrays and the function `bump` of lucid_core's examples.
use Rattle.std.specs.Prelude.{◌≡◌, List, [], ◌∷◌, ◌++◌, Some, Bool, true, false}
use Rattle.lucid_base.specs.declared.array.ArrayName.{ArrayName}
use Rattle.lucid_base.specs.declared.array.ArrayName.TheVariants.{Global, Param}
use Rattle.lucid_core.specs.declared.body.Expr.{Expr}
use Rattle.lucid_core.specs.declared.body.Stmt.{Stmt}
use Rattle.lucid_core.specs.declared.defs.FunDef.{FunDef}
use Rattle.lucid_core.specs.ExamplePrograms.{local, yes, call, drop_value, choose, generate_with, to_each_after, return, plus, update, bump, bumps}
use Rattle.lucid_core.specs.ExamplePrograms.{bump_put_in, program, small, flat}
use Rattle.lucid_effects_spec.specs.Cycle.{IsCycle}
use Rattle.lucid_effects_spec.specs.Order.{InOrder, IsAccepted}
use Rattle.lucid_effects_spec.specs.Paths.{paths}
use Rattle.lucid_effects_spec.specs.Refused.{IsFirstRefused}
use Rattle.lucid_effects_spec.specs.Size.{nodes, flat_size}

abbrev pub first : ArrayName
first = Global 0

abbrev pub second : ArrayName
second = Global 1

-- Array.update(a, i, plus, 1, plus, 1)
abbrev pub touch : ArrayName → Expr
touch a = update a (local 0) plus

-- One call of an array, and calls of two, one after another.
abbrev pub calls : ArrayName → Stmt
calls a = drop_value (touch a)

abbrev pub in_turn : ArrayName → ArrayName → List Stmt
in_turn a b = calls a ∷ calls b ∷ []

-- if (true) { .. } else { .. } and then a call of an array
abbrev pub if_then : List Stmt → List Stmt → ArrayName → List Stmt
if_then ss ts a = choose yes ss ts ∷ calls a ∷ []

-- Array.update(a, .., plus, 1, plus, 1) whose index is a call of b
abbrev pub at_index : ArrayName → ArrayName → List Stmt
at_index a b = drop_value (update a (touch b) plus) ∷ []

-- generate note(i, most), with a delay that calls the first array and a target that calls the second
abbrev pub sent : Bool → List Stmt
sent delay_first = generate_with 0 (local 0 ∷ local 1 ∷ []) (Some (touch first)) (Some (touch second)) delay_first ∷ []

-- bump(a, i); bump(b, i);
abbrev pub bump_both : ArrayName → ArrayName → List Stmt
bump_both a b = drop_value (call 0 (a ∷ []) (local 0 ∷ [])) ∷ drop_value (call 0 (b ∷ []) (local 0 ∷ [])) ∷ []

-- bump(a, ..); whose index is a call of b
abbrev pub bump_at : ArrayName → ArrayName → List Stmt
bump_at a b = drop_value (call 0 (a ∷ []) (touch b ∷ [])) ∷ []

-- note(i, most) to the switches 4 and 2, after a delay that calls the second array; and then a call of the first
abbrev pub group_first : List Stmt
group_first = to_each_after 0 (local 0 ∷ local 1 ∷ []) (Some (touch second)) (4 ∷ 2 ∷ []) ∷ calls first ∷ []

-- relay(a, i); relay(b, i);
abbrev pub relay_both : ArrayName → ArrayName → List Stmt
relay_both a b = drop_value (call 1 (a ∷ []) (local 0 ∷ [])) ∷ drop_value (call 1 (b ∷ []) (local 0 ∷ [])) ∷ []

abbrev pub funs : List FunDef
funs = bump bumps ∷ []

-- The same, and fun int relay(Array<<32>> a, int i) { return bump(a, i); }
abbrev pub with_relay : List FunDef
with_relay = funs ++ bump (return (Some (call 0 (Param 0 ∷ []) (local 0 ∷ []))) ∷ []) ∷ []

-- In order, of two arrays, behind `bump`.
abbrev pub Orderly : List Stmt → Type 0
Orderly body = InOrder 2 funs body

pub record OrderExamples : Type 0 where
  pub rising : Orderly (in_turn first second)
  pub swapped : ¬ Orderly (in_turn second first)
  pub twice : ¬ Orderly (in_turn first first)
  pub one_in_each_branch : Orderly (if_then (calls first ∷ []) (calls first ∷ []) second)
  pub behind_the_first_branch : ¬ Orderly (if_then (calls second ∷ []) [] first)
  pub behind_the_second_branch : ¬ Orderly (if_then [] (calls second ∷ []) first)
  pub index_before : Orderly (at_index second first)
  pub index_behind : ¬ Orderly (at_index first second)
  pub delay_before_target : Orderly (sent true)
  pub target_before_delay : ¬ Orderly (sent false)
  pub bumped_in_order : Orderly (bump_both first second)
  pub bumped_back : ¬ Orderly (bump_both second first)
  pub bumped_twice : ¬ Orderly (bump_both first first)
  pub argument_before : Orderly (bump_at second first)
  pub argument_behind : ¬ Orderly (bump_at first second)
  pub behind_a_group : ¬ Orderly group_first
  pub relayed_in_order : InOrder 2 with_relay (relay_both first second)
  pub relayed_back : ¬ InOrder 2 with_relay (relay_both second first)
  pub body_put_in : Orderly (drop_value bump_put_in ∷ calls second ∷ [])
  pub body_put_in_behind : ¬ Orderly (calls second ∷ drop_value bump_put_in ∷ [])
  pub parameters_are_free : Orderly (in_turn (Param 1) (Param 0))
  pub parameter_twice : ¬ Orderly (in_turn (Param 0) (Param 0))

pub record PathExamples : Type 0 where
  pub one_after_another : paths funs (in_turn second first) ≡ (second ∷ first ∷ []) ∷ []
  pub by_branch : paths funs (if_then (calls first ∷ []) [] second) ≡ (first ∷ second ∷ []) ∷ (second ∷ []) ∷ []
  pub index_first : paths funs (at_index second first) ≡ (first ∷ second ∷ []) ∷ []
  pub target_first : paths funs (sent false) ≡ (second ∷ first ∷ []) ∷ []
  pub delay_first : paths funs (sent true) ≡ (first ∷ second ∷ []) ∷ []
  pub of_a_function : paths [] bumps ≡ (Param 0 ∷ []) ∷ []
  pub of_an_argument : paths funs (bump_at second first) ≡ (first ∷ second ∷ []) ∷ []
  pub of_a_group : paths funs group_first ≡ (second ∷ first ∷ []) ∷ []
  pub of_a_relay : paths with_relay (relay_both second first) ≡ (second ∷ first ∷ []) ∷ []
  pub of_its_calls : paths funs (bump_both second first) ≡ (second ∷ first ∷ []) ∷ []
  pub body_put_in : paths funs (drop_value bump_put_in ∷ []) ≡ (first ∷ []) ∷ []
  pub cycle : IsCycle 2 (paths funs (in_turn second first)) first (second ∷ [])
  pub begins_with_the_earliest : ¬ IsCycle 2 (paths funs (in_turn second first)) second (first ∷ [])
  pub none_in_order : ¬ IsCycle 2 (paths funs (in_turn first second)) first (second ∷ [])

-- Examples of whole programs.
pub record ProgramExamples : Type 0 where
  pub accepted : IsAccepted small
  pub refused : IsFirstRefused (program bumps (in_turn second first)) 5 first (second ∷ [])
  pub function_refused : IsFirstRefused (program (in_turn (Param 0) (Param 0)) (in_turn second first)) 4 (Param 0) []
  pub size : nodes small ≡ 22
  pub size_of_flat : flat_size (flat (drop_value bump_put_in ∷ [])) ≡ 3

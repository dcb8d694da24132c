-- The worked examples of paths and of whole programs.
use Rattle.std.proofs.Common.{◌≡◌, ◌≢◌, ◌<◌, List, [], ◌∷◌, refl, sym, subst, arith, inl, inr}
use Rattle.std.specs.Prelude.{Any}
use Rattle.std.proofs.lemmas.List.Elements.{All-from_recursion}
use Rattle.std.proofs.lemmas.List.Kept.{AllPairs-cons}
use Rattle.lucid_base.specs.declared.array.ArrayName.{ArrayName}
use Rattle.lucid_base.specs.declared.array.ArrayName.TheVariants.{Param}
use Rattle.lucid_core.specs.declared.defs.FunDef.{FunDef}
use Rattle.lucid_core.specs.ExamplePrograms.{bumps, program, small}
use Rattle.lucid_core.proofs.Folds.{folds}
use Rattle.lucid_constraints.specs.Cycle.{ComesFirst}
use Rattle.lucid_effects_spec.specs.Cycle.{CallsThen, IsCycle}
use Rattle.lucid_effects_spec.specs.Examples.{PathExamples, ProgramExamples, first, funs, in_turn, second}
use Rattle.lucid_effects_spec.specs.Order.{Body, InOrder, bodies}
use Rattle.lucid_effects_spec.specs.Paths.{Path, paths}
use Rattle.lucid_effects_spec.proofs.OrderProofs.{bumps_in_order, handles_in_order, never_twice, order_examples, swapped}
use Rattle.lucid_effects_spec.proofs.Cycles.{cycles_refuse}

-- A body of two calls has one path.
one_path : (a b : ArrayName) (before : List FunDef) → Any (CallsThen a b) (paths before (in_turn a b))
one_path a b before = subst (λ (ps : List Path). Any (CallsThen a b) ps) (sym path) (0, a ∷ b ∷ [], omega arith, refl, record { before = []; between = []; after = []; is = refl })
  where
    path : paths before (in_turn a b) ≡ (a ∷ b ∷ []) ∷ []
    path = simp folds refl

second_before_first : IsCycle 2 (paths funs (in_turn second first)) first (second ∷ [])
second_before_first = record {
  distinct = AllPairs-cons (λ x y. x ≢ y) first (second ∷ []) (All-from_recursion (λ y. first ≢ y) (second ∷ []) ((λ e. cc), tt)) (λ i j d h l. absurd (omega arith));
  leads = (inr (omega arith, omega arith), (inl (one_path second first funs), tt));
  earliest = All-from_recursion (ComesFirst first) (second ∷ []) (omega arith, tt);
}

before_itself : IsCycle 2 (paths [] (in_turn (Param 0) (Param 0))) (Param 0) []
before_itself = record {
  distinct = λ i j d h l. absurd (omega arith);
  leads = (inl (one_path (Param 0) (Param 0) []), tt);
  earliest = λ k d l. absurd (omega arith);
}

pub path_examples : PathExamples
path_examples = record {
  one_after_another = simp folds refl;
  by_branch = simp folds refl;
  index_first = simp folds refl;
  target_first = simp folds refl;
  delay_first = simp folds refl;
  of_a_function = simp folds refl;
  of_an_argument = simp folds refl;
  of_a_group = simp folds refl;
  of_a_relay = simp folds refl;
  of_its_calls = simp folds refl;
  body_put_in = simp folds refl;
  cycle = second_before_first;
  begins_with_the_earliest = λ cycle. let early = cycle.earliest 0 first (omega arith) in absurd (omega arith);
  none_in_order = λ cycle. cycles_refuse 2 funs (in_turn first second) first (second ∷ []) cycle order_examples.rising;
}

pub program_examples : ProgramExamples
program_examples = record {
  accepted = All-from_recursion (λ (b : Body). InOrder 2 b.funs b.body) (bodies small) (bumps_in_order, (handles_in_order, tt));
  refused = record {
    refused = record { decl = 5; funs = funs; body = in_turn second first };
    there = (1, omega arith, refl);
    number = refl;
    isnt = swapped;
    cycle = second_before_first;
    none_before = All-from_recursion (λ (b : Body). b.decl < 5 → InOrder 2 b.funs b.body) (bodies (program bumps (in_turn second first))) ((λ h. bumps_in_order), ((λ h. absurd (omega arith)), tt));
  };
  function_refused = record {
    refused = record { decl = 4; funs = []; body = in_turn (Param 0) (Param 0) };
    there = (0, omega arith, refl);
    number = refl;
    isnt = never_twice (Param 0) [];
    cycle = before_itself;
    none_before = All-from_recursion (λ (b : Body). b.decl < 4 → InOrder 2 b.funs b.body) (bodies (program (in_turn (Param 0) (Param 0)) (in_turn second first))) ((λ h. absurd (omega arith)), ((λ h. absurd (omega arith)), tt));
  };
  size = simp folds refl;
  size_of_flat = simp folds refl;
}

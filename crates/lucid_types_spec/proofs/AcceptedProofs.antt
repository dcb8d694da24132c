-- The accepted forms, rule by rule, and the limits, counted.
use Rattle.std.proofs.Common.{◌≡◌, ℕ, ◌<◌, ◌^◌, List, [], ◌∷◌, Option, None, Some, Bool, true, false, refl, sym, ap, subst, ◌∙◌, ◌&&◌, codes, arith, length, map, nat_le, replicate}
use Rattle.std.specs.List.{list_all}
use Rattle.lucid_core.proofs.Folds.{folds}
use Rattle.lucid_parse_tree.specs.declared.tree.A.{A}
use Rattle.lucid_parse_tree.specs.declared.tree.A.TheOpen.{E-F}
use Rattle.lucid_parse_tree.specs.declared.tree.A.TheViews.{out-E, out-roll-E}
use Rattle.lucid_parse_tree.specs.declared.tree.Infix.{Infix}
use Rattle.lucid_parse_tree.specs.declared.tree.Pre.{Pre}
use Rattle.lucid_parse_tree.specs.declared.tree.E.{E, roll-E}
use Rattle.lucid_parse_tree.specs.declared.tree.E.TheVariants as e
use Rattle.lucid_parse_tree.specs.declared.tree.C.{fold-roll-C}
use Rattle.lucid_parse_tree.specs.declared.tree.No.{fold-No, fold-roll-No}
use Rattle.lucid_parse_tree.specs.declared.tree.No.TheOpen.{No-F, S-F}
use Rattle.lucid_parse_tree.specs.declared.tree.No.TheVariants as no
use Rattle.lucid_parse_tree.specs.declared.tree.S.{S, fold-roll-S}
use Rattle.lucid_parse_tree.specs.declared.tree.S.TheVariants as s
use Rattle.lucid_core.specs.declared.body.Expr.TheVariants as core
use Rattle.lucid_core.specs.Numbers.{all_hold}
use Rattle.lucid_types_spec.specs.Accepted.{five, gives, returns, sending, sets_n, three, to_n, TypedStatements, TypedMemops, HidingNames, PassedLimits, SentEvents, TypedExpressions}
use Rattle.lucid_core.specs.declared.ending.Ending.TheVariants.{Never, Always}
use Rattle.lucid_types_spec.specs.declared.scope.ValueType.{ValueType}
use Rattle.lucid_types_spec.specs.declared.scope.ValueType.TheVariants.{Int}
use Rattle.lucid_types_spec.specs.Block.{Block, if_of}
use Rattle.lucid_types_spec.specs.Block as block
use Rattle.lucid_types_spec.specs.Leaves.{FreeWidth, OnlyNumbers}
use Rattle.lucid_types_spec.specs.Leaves as leaves
use Rattle.lucid_types_spec.specs.Limits.{cases_are_few, cases_of_choice, cases_of_no, cases_of_statement}
use Rattle.lucid_types_spec.specs.Memop as memop
use Rattle.lucid_types_spec.specs.Refused.{done, i, n, sight, yes}
use Rattle.lucid_types_spec.specs.Sends as sends
use Rattle.lucid_types_spec.specs.Typed.{Free}
use Rattle.lucid_types_spec.specs.Typed as rule
use Rattle.lucid_types_spec.specs.Types.{IsWidth}
use Rattle.lucid_types_spec.specs.Types as types
use Rattle.lucid_types_spec.proofs.Leaves.{Inside, inside, no_name}

byte : IsWidth 8
byte = (omega arith, omega arith)

short : IsWidth 16
short = (omega arith, omega arith)

wide : IsWidth 32
wide = (omega arith, omega arith)

free_i : Free sight i 32 (core.Local 0)
free_i = rule.free _ _ _ (leaves.of_leaves _ _ wide (λ all. no_name (codes "i") all.0)) (rule.local _ _ _ refl)

free_n : Free sight n 8 (core.Local 1)
free_n = rule.free _ _ _ (leaves.of_leaves _ _ byte (λ all. no_name (codes "n") all.0)) (rule.local _ _ _ refl)

free_five : Free sight (e.Number 5) 32 five
free_five = rule.free _ _ _ (leaves.of_numbers _ (leaves.number _, tt)) (rule.number _ _ (omega arith))

-- ---- numbers alone, from outside in

at : {x : E} (y : E-F A E) → roll-E y ≡ x → OnlyNumbers x → Inside y
at y is of = subst Inside (ap out-E (sym is) ∙ out-roll-E y) (inside of)

of_sum : (sign : Infix) (x y : E) → OnlyNumbers (e.Infix sign x y) → OnlyNumbers y
of_sum sign x y of = (at (E-F.Infix sign x y) (e.rolls-Infix sign x y) of).1

of_prefix : (sign : Pre) (x : E) → OnlyNumbers (e.Prefix sign x) → OnlyNumbers x
of_prefix sign x of = at (E-F.Prefix sign x) (e.rolls-Prefix sign x) of

of_paren : (x : E) → OnlyNumbers (e.Paren x) → OnlyNumbers x
of_paren x of = at (E-F.Paren x) (e.rolls-Paren x) of

of_shift : (x : E) (left : Bool) (k : ℕ) → OnlyNumbers (e.Shift x left k) → OnlyNumbers x
of_shift x left k of = at (E-F.Shift x left k) (e.rolls-Shift x left k) of

no_cast : OnlyNumbers (e.Cast (Some 16) n) → ⊥
no_cast of = at (E-F.Cast (Some 16) n) (e.rolls-Cast (Some 16) n) of

pub typed_expressions : TypedExpressions
typed_expressions = record {
  number_first = rule.compare _ _ _ _ _ _ _ refl (leaves.of_leaves _ _ byte (λ all. no_name (codes "n") all.1.0)) (rule.number _ _ (omega arith)) (rule.local _ _ _ refl);
  leaf_inside = rule.cast _ _ _ _ wide
      (rule.free _ _ _ (leaves.of_leaves _ 8 byte (λ all. no_name (codes "n") (of_prefix _ _ (of_shift _ _ _ (of_paren _ (of_prefix _ _ (of_sum _ _ _ all.0)))))))
      (rule.sum _ _ _ _ _ _ _ refl (rule.number _ _ (omega arith)) (rule.minus _ _ _ (rule.paren _ _ _ (rule.shift _ _ _ _ _ (rule.tilde _ _ _ (rule.local _ _ _ refl)))))));
  cast_is_a_leaf = rule.compare _ _ _ _ _ _ _ refl (leaves.of_leaves _ _ short (λ all. no_cast all.1.0)) (rule.number _ _ (omega arith)) (rule.cast _ _ _ _ short free_n);
  numbers_alone = rule.cast _ _ _ _ byte
      (rule.free _ _ _ (leaves.of_numbers _ (leaves.sum _ _ _ _ refl (leaves.minus _ (leaves.number _)) (leaves.tilde _ (leaves.paren _ (leaves.shift _ _ _ (leaves.number _)))), tt))
      (rule.sum _ _ _ _ _ _ _ refl (rule.minus _ _ _ (rule.number _ _ (omega arith))) (rule.tilde _ _ _ (rule.paren _ _ _ (rule.shift _ _ _ _ _ (rule.number _ _ (omega arith)))))));
  both_hold = rule.logical _ _ _ _ _ _ refl (rule.local _ _ _ refl) (rule.truth true);
  one_holds = rule.logical _ _ _ _ _ _ refl (rule.truth false) (rule.local _ _ _ refl);
  shift_right = rule.shift _ _ _ _ _ (rule.local _ _ _ refl);
  not_of_a_bool = rule.not _ _ (rule.local _ _ _ refl);
  seed_is_free = rule.hash _ _ _ _ _ _ short (rule.free _ _ _ (leaves.of_numbers _ (leaves.number _, tt)) (rule.number _ _ (omega arith))) (rule.more _ _ _ _ _ free_n rule.none);
  get = rule.array _ _ _ (rule.get _ _ _ _ _ _ refl free_i);
  update = rule.array _ _ _ (rule.update _ _ _ _ _ _ _ _ _ _ _ _ _ _ refl free_n refl refl (rule.number _ _ (omega arith)) refl refl (rule.number _ _ (omega arith)));
  set = rule.set _ _ _ _ _ _ _ _ refl free_n (rule.local _ _ _ refl);
  setm = rule.setm _ _ _ _ _ _ _ _ _ _ refl free_n refl refl (rule.local _ _ _ refl);
}

sets : (answer : Option ValueType) (k : ℕ) → k < 2 ^ 8 → Block answer sight three (to_n k) (record { steps = sets_n k; ending = Never }) three
sets answer k fits = block.goes_on _ _ _ _ _ _ _ _ (block.assign _ _ _ _ _ _ _ refl (rule.number _ _ fits)) refl (block.end _ _)

returns_k : (k : ℕ) → k < 2 ^ 8 → Block (Some (Int 8)) sight three (returns k) (record { steps = gives k; ending = Always }) three
returns_k k fits = block.stops _ _ _ _ _ (block.return_value _ _ (Int 8) _ _ refl (rule.number _ _ fits)) (λ is. cc)

pub typed_statements : TypedStatements
typed_statements = record {
  if_else = block.goes_on _ _ _ _ _ _ _ _
      (block.choose _ _ _ _ _ _ _ _ _ (rule.local _ _ _ refl) (block.block _ _ _ _ _ _ _ _ (sets None 1 (omega arith)) (sets None 2 (omega arith)))) refl (block.end _ _);
  else_if = block.goes_on _ _ _ _ _ _ _ _
      (block.choose _ _ _ _ _ _ _ _ _ (rule.local _ _ _ refl) (block.chain _ _ _ _ _ _ _ _ (sets None 1 (omega arith))
      (block.goes_on _ _ _ _ _ _ _ _ (block.choose _ _ _ _ _ _ _ _ _ (rule.local _ _ _ refl) (block.alone _ _ _ _ _ (sets None 2 (omega arith)) (λ is. cc))) refl (block.end _ _)))) refl
      (block.end _ _);
  both_return = block.stops _ _ _ _ _
      (block.choose _ _ _ _ _ _ _ _ _ (rule.local _ _ _ refl) (block.block _ _ _ _ _ _ _ _ (returns_k 1 (omega arith)) (returns_k 2 (omega arith)))) (λ is. cc);
  one_returns = block.stops _ _ _ _ _
      (block.choose _ _ _ _ _ _ _ _ _ (rule.local _ _ _ refl) (block.block _ _ _ _ _ _ _ _ (returns_k 1 (omega arith)) (sets (Some (Int 8)) 2 (omega arith)))) (λ is. cc);
  some_path_returns = block.stops _ _ _ _ _
      (block.choose _ _ _ _ _ _ _ _ _ (rule.local _ _ _ refl) (block.alone _ _ _ _ _
      (block.stops _ _ _ _ _
      (block.choose _ _ _ _ _ _ _ _ _ (rule.local _ _ _ refl) (block.block _ _ _ _ _ _ _ _ (returns_k 1 (omega arith)) (sets (Some (Int 8)) 2 (omega arith)))) (λ is. cc))
      (λ is. cc))) (λ is. cc);
  text_again = block.goes_on _ _ _ _ _ _ _ _ (block.printf _ _ _ _ _ rule.none refl) refl (block.end _ _);
  value_is_dropped = block.goes_on _ _ _ _ _ _ _ _ (block.array _ _ _ _ _ (rule.get _ _ _ _ _ _ refl free_i)) refl (block.end _ _);
}

pub hiding_names : HidingNames
hiding_names = record {
  newest = rule.local _ _ _ refl;
  older_ones_stay = rule.local _ _ _ refl;
  parameters = types.value _ _ _ _ _ _ _ _ _ (types.int None wide) (types.value _ _ _ _ _ _ _ _ _ (types.int (Some 8) byte) (types.none _ _ _));
}

pub typed_memops : TypedMemops
typed_memops = record {
  choice = memop.choice _ _ _ _ _ _ (memop.compare _ _ _ _ _ _ refl (rule.local _ _ _ refl) (rule.local _ _ _ refl)) (memop.returned _ _ (rule.local _ _ _ refl))
      (memop.returned _ _ (rule.local _ _ _ refl));
  guard = memop.guard _ _ _ _ _ _ (memop.paren _ _ (memop.compare _ _ _ _ _ _ refl (rule.local _ _ _ refl) (rule.local _ _ _ refl)))
      (memop.returned _ _ (rule.local _ _ _ refl)) (memop.returned _ _ (rule.local _ _ _ refl));
}

done_is : sends.Sends sight done sending
done_is = sends.call (codes "done") _ _ _ _ refl rule.nothing

pub sent_events : SentEvents
sent_events = record {
  to_itself = sends.paren _ _ done_is;
  delay_inside = sends.locate _ _ _ _ _ (sends.delay _ _ _ _ _ done_is refl free_five) refl free_i;
  locate_inside = sends.delay _ _ _ _ _ (sends.locate _ _ _ _ _ done_is refl free_i) refl free_five;
  to_a_group = sends.group _ _ _ _ (sends.delay _ _ _ _ _ done_is refl free_five) refl refl;
}

-- Of each case what its statements say.
abbrev each_case : List (ℕ × List S) → List (ℕ × List Bool)
each_case cases = map {B = ℕ × List Bool} (λ (c : ℕ × List S). (c.0, map cases_are_few c.1)) cases

few_cases : (cases : List (ℕ × List S)) →
    cases_are_few (s.Match i cases None) ≡ nat_le (length (each_case cases)) 32 && list_all (λ (c : ℕ × List Bool). all_hold c.1) (each_case cases) && true
few_cases cases = ap cases_are_few (sym (s.rolls-Match i cases None)) ∙ fold-roll-S Bool Bool Bool cases_of_no cases_of_statement cases_of_choice (S-F.Match i cases None)

few_behind : (x : S) → cases_are_few (if_of yes [] (no.Block (x ∷ []))) ≡ all_hold (cases_are_few x ∷ [])
few_behind x =
    ap cases_are_few (sym (s.rolls-Cond _)) ∙ fold-roll-S _ _ _ cases_of_no cases_of_statement cases_of_choice (S-F.«S::Cond» _)
    ∙ fold-roll-C _ _ _ cases_of_no cases_of_statement cases_of_choice (record { test = yes; yes = []; no = no.Block (x ∷ []) })
    ∙ ap (fold-No Bool Bool Bool cases_of_no cases_of_statement cases_of_choice) (sym (no.rolls-Block (x ∷ []))) ∙ fold-roll-No _ _ _ cases_of_no cases_of_statement cases_of_choice (No-F.Block (x ∷ []))

pub passed_limits : PassedLimits
passed_limits = record {
  arrays_64 = refl;
  arrays_65 = refl;
  array_parameters_8 = refl;
  array_parameters_9 = refl;
  values_8 = refl;
  values_9 = refl;
  event_values_9 = refl;
  arguments_8 = simp folds refl;
  hashed_9 = simp folds refl;
  printed_9 = simp folds refl;
  outs_8 = simp folds refl;
  outs_9 = simp folds refl;
  cases_32 = rw (few_cases (replicate 32 (0, []))) refl;
  cases_33 = rw (few_cases (replicate 33 (0, []))) refl;
  cases_33_behind = rw (few_behind (s.Match i (replicate 33 (0, [])) None), few_cases (replicate 33 (0, []))) refl;
  arrays_first = refl;
  array_parameters_before_values = refl;
  cases_last = simp folds refl;
}

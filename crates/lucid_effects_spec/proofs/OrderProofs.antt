-- The worked examples of the order, computed by where each part ends.
use Rattle.std.proofs.Common.{◌≡◌, ℕ, ◌+◌, ◌-◌, ◌≤◌, List, [], Bool, true, false, if◌then◌else◌, None, Some, refl, ap, sym, ◌∙◌, nat_le, arith, option_and_then}
use Rattle.std.proofs.lemmas.Bool.{leb-true}
use Rattle.lucid_base.specs.declared.array.ArrayName.{ArrayName}
use Rattle.lucid_base.specs.declared.array.ArrayName.TheVariants.{Global, Param}
use Rattle.lucid_core.specs.declared.body.Expr.{Expr}
use Rattle.lucid_core.specs.declared.body.Stmt.{Stmt}
use Rattle.lucid_core.specs.declared.body.Touch.{Touch}
use Rattle.lucid_core.specs.declared.body.Expr.TheOpen.{Expr-F, Stmt-F, Touch-F}
use Rattle.lucid_core.specs.declared.body.Expr.TheViews.{roll-Expr, roll-Stmt, roll-Touch}
use Rattle.lucid_core.specs.declared.body.Expr.TheFolds.{fold-roll-Expr, fold-roll-Stmt, fold-roll-Touch, map-Expr, map-Stmt, map-Touch}
use Rattle.lucid_core.specs.declared.defs.FunDef.{FunDef}
use Rattle.lucid_core.specs.ExamplePrograms.{bumps, handler, handles, program}
use Rattle.lucid_core.specs.Names.{names_are_there}
use Rattle.lucid_core.proofs.Folds.{folds}
use Rattle.lucid_effects_spec.specs.Ends.{End, Numbering, FunEnd, body_end, ends_of, ends as ends_walk, expr_end, stmt_end, touch_end}
use Rattle.lucid_effects_spec.specs.Evaluation as walk
use Rattle.lucid_effects_spec.specs.Examples.{OrderExamples, Orderly, calls, first, funs, in_turn, second, with_relay}
use Rattle.lucid_effects_spec.specs.Laws.{own_numbers}
use Rattle.lucid_effects_spec.specs.Order.{InOrder}
use Rattle.lucid_effects_spec.proofs.OwnNumbers.{by_own_numbers}
use Rattle.lucid_effects_spec.proofs.Transfer.{some_then}

-- Where a part of a body ends, by where its parts end.
expr_ends : (y : Expr-F Expr Stmt Touch) (fs : List FunEnd) (N : Numbering) (c : ℕ) → expr_end (roll-Expr y) fs N c ≡ walk.expr_step ends_walk (map-Expr Expr Stmt Touch End End End expr_end stmt_end touch_end y) fs N c
expr_ends y fs N c = ap (λ (f : End). f fs N c) (fold-roll-Expr End End End (walk.expr_step ends_walk) (walk.stmt_step ends_walk) (walk.touch_step ends_walk) y)

stmt_ends : (y : Stmt-F Expr Stmt Touch) (fs : List FunEnd) (N : Numbering) (c : ℕ) → stmt_end (roll-Stmt y) fs N c ≡ walk.stmt_step ends_walk (map-Stmt Expr Stmt Touch End End End expr_end stmt_end touch_end y) fs N c
stmt_ends y fs N c = ap (λ (f : End). f fs N c) (fold-roll-Stmt End End End (walk.expr_step ends_walk) (walk.stmt_step ends_walk) (walk.touch_step ends_walk) y)

touch_ends : (y : Touch-F Expr Stmt Touch) (fs : List FunEnd) (N : Numbering) (c : ℕ) → touch_end (roll-Touch y) fs N c ≡ walk.touch_step ends_walk (map-Touch Expr Stmt Touch End End End expr_end stmt_end touch_end y) fs N c
touch_ends y fs N c = ap (λ (f : End). f fs N c) (fold-roll-Touch End End End (walk.expr_step ends_walk) (walk.stmt_step ends_walk) (walk.touch_step ends_walk) y)

ruleset ends = (expr_ends, stmt_ends, touch_ends)

-- A body that has a derivation with the own numbers of arrays.
in_order : (before : List FunDef) (body : List Stmt) (end : ℕ) → body_end body (ends_of before) own_numbers 0 ≡ Some end → InOrder 2 before body
in_order before body end is = record { numbering = own_numbers; rises = λ a b h l. h; end = end; derived = is }

-- And one that has none.
isnt_in_order : (before : List FunDef) (body : List Stmt) → names_are_there (record (program bumps body) { funs = before }) ≡ true → body_end body (ends_of before) own_numbers 0 ≡ None → ¬ InOrder 2 before body
isnt_in_order before body names is order =
    let found = by_own_numbers (record (program bumps body) { funs = before }) names 0 (handler body) refl order in
    let end = found.1 in
    cc

-- Array parameters may have any numbers.
abbrev backwards : Numbering
backwards (Global a) = a
backwards (Param i) = 1 - i

pub bumps_in_order : InOrder 2 [] bumps
bumps_in_order = record { numbering = own_numbers; rises = λ a b h l. h; end = 1; derived = simp ends refl }

pub handles_in_order : Orderly handles
handles_in_order = in_order funs _ 1 (simp ends refl)

passed : (a : ArrayName) (fs : List FunEnd) (N : Numbering) (c e : ℕ) → stmt_end (calls a) fs N c ≡ Some e → (c ≤ N a) × (e ≡ N a + 1)
passed a fs N c e is = pick (nat_le c (N a)) refl (sym ends_there ∙ is)
  where
    ends_there : stmt_end (calls a) fs N c ≡ (if nat_le c (N a) then Some (N a + 1) else None)
    ends_there = simp ends refl

    pick : (b : Bool) → nat_le c (N a) ≡ b → (if b then Some (N a + 1) else None) ≡ Some e → (c ≤ N a) × (e ≡ N a + 1)
    pick true t h = (leb-true c (N a) t, cc)
    pick false t h = cc

-- No numbering lets a body call one array twice.
pub never_twice : (a : ArrayName) (before : List FunDef) → ¬ InOrder 2 before (in_turn a a)
never_twice a before order =
    let fs = ends_of before in
    let N = order.numbering in
    let once = some_then (λ d. option_and_then (λ e. Some e) (stmt_end (calls a) fs N d)) (stmt_end (calls a) fs N 0) order.end order.derived in
    let again = some_then (λ e. Some e) (stmt_end (calls a) fs N once.0) order.end once.2 in
    let behind = (passed a fs N 0 once.0 once.1).1 in
    let before = (passed a fs N once.0 again.0 again.1).0 in
    omega arith

pub swapped : ¬ Orderly (in_turn second first)
swapped = isnt_in_order funs _ (simp folds refl) (simp ends refl)

pub order_examples : OrderExamples
order_examples = record {
  rising = in_order funs _ 2 (simp ends refl);
  swapped = swapped;
  twice = isnt_in_order funs _ (simp folds refl) (simp ends refl);
  one_in_each_branch = in_order funs _ 2 (simp ends refl);
  behind_the_first_branch = isnt_in_order funs _ (simp folds refl) (simp ends refl);
  behind_the_second_branch = isnt_in_order funs _ (simp folds refl) (simp ends refl);
  index_before = in_order funs _ 2 (simp ends refl);
  index_behind = isnt_in_order funs _ (simp folds refl) (simp ends refl);
  delay_before_target = in_order funs _ 2 (simp ends refl);
  target_before_delay = isnt_in_order funs _ (simp folds refl) (simp ends refl);
  bumped_in_order = in_order funs _ 2 (simp ends refl);
  bumped_back = isnt_in_order funs _ (simp folds refl) (simp ends refl);
  bumped_twice = isnt_in_order funs _ (simp folds refl) (simp ends refl);
  argument_before = in_order funs _ 2 (simp ends refl);
  argument_behind = isnt_in_order funs _ (simp folds refl) (simp ends refl);
  behind_a_group = isnt_in_order funs _ (simp folds refl) (simp ends refl);
  relayed_in_order = in_order with_relay _ 2 (simp ends refl);
  relayed_back = isnt_in_order with_relay _ (simp folds refl) (simp ends refl);
  body_put_in = in_order funs _ 2 (simp ends refl);
  body_put_in_behind = isnt_in_order funs _ (simp folds refl) (simp ends refl);
  parameters_are_free = record { numbering = backwards; rises = λ a b h l. h; end = 2; derived = simp ends refl };
  parameter_twice = never_twice (Param 0) funs;
}

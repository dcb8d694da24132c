-- A block that ends in an `if`, gone along by the second branches.
use Rattle.std.proofs.Common.{◌≡◌, ℕ, ◌+◌, ◌<◌, ◌≤◌, max, List, [], ◌∷◌, ◌++◌, Bool, true, false, ◌&&◌, map, refl, sym, ap, ◌∙◌, arith}
use Rattle.std.proofs.lemmas.List.{map-append}
use Rattle.std.proofs.lemmas.List.Folds.{list_all-append}
use denote.Param.Weighed.{most}
use Rattle.lucid_core.specs.declared.body.Expr.{Expr}
use Rattle.lucid_core.specs.declared.body.Stmt.{Stmt}
use Rattle.lucid_core.specs.declared.body.Expr.TheViews as v
use Rattle.lucid_core.specs.declared.body.Expr.TheViews.{size-Expr, size-Stmt}
use Rattle.lucid_core.specs.declared.body.Expr.TheFolds.{fold-roll-Stmt}
use Rattle.lucid_core.specs.declared.body.Expr.TheOpen.{Stmt-F}
use Rattle.lucid_core.specs.declared.body.Stmt.TheVariants as s
use Rattle.lucid_core.specs.Numbers.{all_hold}
use Rattle.lucid_core.specs.OutCount as o
use Rattle.lucid_core.specs.OutCount.{Count, expr_outs, stmt_outs, total}
use Rattle.lucid_core.specs.Few as f
use Rattle.lucid_core.specs.Few.{expr_few, stmt_few}
use Rattle.lucid_types_limits.specs.declared.tally.Tally.{Tally}
use Rattle.lucid_types_limits.specs.Tally.{in_turn, tally}
use Rattle.lucid_types_limits.proofs.Tallies.{and_true, total-append}

-- What was gone through so far, and the greatest of what was left behind, decide the whole with what is left.
pub record IsAlong (funs : List ℕ) (whole left : List Stmt) (before greatest : Tally) : Type 0 where
  pub outs_before : ℕ
  pub outs_greatest : ℕ
  pub few_before : Bool
  pub few_greatest : Bool
  pub before_is : before ≡ tally outs_before few_before
  pub greatest_is : greatest ≡ tally outs_greatest few_greatest
  pub outs : total (map stmt_outs whole) funs ≡ max outs_greatest (outs_before + total (map stmt_outs left) funs)
  pub few : all_hold (map stmt_few whole) ≡ (few_greatest && (few_before && all_hold (map stmt_few left)))

-- The clause of `and`.
abbrev Adds : Tally → Tally → Tally → Type 0
Adds t u both = (m n : ℕ) (a b : Bool) → t ≡ tally m a → u ≡ tally n b → both ≡ tally (m + n) (a && b)

-- The clause of `or`.
abbrev Chooses : Tally → Tally → Tally → Type 0
Chooses t u either = (m n : ℕ) (a b : Bool) → t ≡ tally m a → u ≡ tally n b → either ≡ tally (max m n) (a && b)

-- ---- a block that ends in an `if`

if_outs : (funs : List ℕ) (x : Expr) (ss ts : List Stmt) → stmt_outs (s.If x ss ts) funs ≡ expr_outs x funs + max (total (map stmt_outs ss) funs) (total (map stmt_outs ts) funs)
if_outs funs x ss ts =
    ap (λ (y : Stmt). stmt_outs y funs) (sym (s.rolls-If x ss ts)) ∙ ap (λ (c : Count). c funs) (fold-roll-Stmt Count Count Count o.expr_step o.stmt_step o.touch_step (Stmt-F.If x ss ts))

if_few : (x : Expr) (ss ts : List Stmt) → stmt_few (s.If x ss ts) ≡ (expr_few x && (all_hold (map stmt_few ss) && all_hold (map stmt_few ts)))
if_few x ss ts =
    ap stmt_few (sym (s.rolls-If x ss ts)) ∙ fold-roll-Stmt Bool Bool Bool f.expr_step f.stmt_step f.touch_step (Stmt-F.If x ss ts)
    ∙ ap (λ (b : Bool). expr_few x && b) (list_all-append (λ b. b) (map stmt_few ss) (map stmt_few ts))

block_outs : (funs : List ℕ) (front : List Stmt) (x : Expr) (ss ts : List Stmt) →
    total (map stmt_outs (front ++ s.If x ss ts ∷ [])) funs ≡ total (map stmt_outs front) funs + (expr_outs x funs + max (total (map stmt_outs ss) funs) (total (map stmt_outs ts) funs))
block_outs funs front x ss ts =
    ap (λ (cs : List Count). total cs funs) (map-append stmt_outs front (s.If x ss ts ∷ []))
    ∙ total-append (map stmt_outs front) (stmt_outs (s.If x ss ts) ∷ []) funs
    ∙ (let e = if_outs funs x ss ts in omega arith)

block_few : (front : List Stmt) (x : Expr) (ss ts : List Stmt) →
    all_hold (map stmt_few (front ++ s.If x ss ts ∷ [])) ≡ (all_hold (map stmt_few front) && (expr_few x && (all_hold (map stmt_few ss) && all_hold (map stmt_few ts))))
block_few front x ss ts =
    ap all_hold (map-append stmt_few front (s.If x ss ts ∷ [])) ∙ list_all-append (λ b. b) (map stmt_few front) (stmt_few (s.If x ss ts) ∷ [])
    ∙ ap (λ (b : Bool). all_hold (map stmt_few front) && b) (and_true (stmt_few (s.If x ss ts)) ∙ if_few x ss ts)

-- ---- what stands before an `if` counts for either branch

added_to_either : (m n f x y z : ℕ) → max n (m + (f + (x + max y z))) ≡ max (max n (m + f + x + y)) (m + f + x + z)
added_to_either m n f x y z = omega arith

held_by_either : (a b f x y z : Bool) → (b && (a && (f && (x && (y && z))))) ≡ ((b && (a && f && x && y)) && (a && f && x && z))
held_by_either true true true true true z = refl
held_by_either true true true true false z = refl
held_by_either true true true false y z = refl
held_by_either true true false x y z = refl
held_by_either false true f x y z = refl
held_by_either a false f x y z = refl

-- One step along.
pub stepped : (funs : List ℕ) (whole left front : List Stmt) (x : Expr) (ss ts : List Stmt) (before greatest part joined test after branch arm greater : Tally) →
    left ≡ front ++ s.If x ss ts ∷ [] →
    Adds before part joined → Adds joined test after → Adds after branch arm → Chooses greatest arm greater →
    part ≡ in_turn stmt_outs stmt_few funs front → test ≡ tally (expr_outs x funs) (expr_few x) → branch ≡ in_turn stmt_outs stmt_few funs ss →
    IsAlong funs whole left before greatest → IsAlong funs whole ts after greater
stepped funs whole left front x ss ts before greatest part joined test after branch arm greater is adds_part adds_test adds_branch chooses part_is test_is branch_is along = record {
  outs_before = outs_after;
  outs_greatest = max along.outs_greatest (outs_after + total (map stmt_outs ss) funs);
  few_before = few_after;
  few_greatest = along.few_greatest && (few_after && all_hold (map stmt_few ss));
  before_is = after_is;
  greatest_is = chooses _ _ _ _ along.greatest_is (adds_branch _ _ _ _ after_is branch_is);
  outs = along.outs ∙ ap (λ (ls : List Stmt). max along.outs_greatest (along.outs_before + total (map stmt_outs ls) funs)) is
      ∙ ap (λ (n : ℕ). max along.outs_greatest (along.outs_before + n)) (block_outs funs front x ss ts)
      ∙ added_to_either along.outs_before along.outs_greatest (total (map stmt_outs front) funs) (expr_outs x funs) (total (map stmt_outs ss) funs) (total (map stmt_outs ts) funs);
  few = along.few ∙ ap (λ (ls : List Stmt). along.few_greatest && (along.few_before && all_hold (map stmt_few ls))) is
      ∙ ap (λ (b : Bool). along.few_greatest && (along.few_before && b)) (block_few front x ss ts)
      ∙ held_by_either along.few_before along.few_greatest (all_hold (map stmt_few front)) (expr_few x) (all_hold (map stmt_few ss)) (all_hold (map stmt_few ts));
}
  where
    outs_after : ℕ
    outs_after = along.outs_before + total (map stmt_outs front) funs + expr_outs x funs

    few_after : Bool
    few_after = along.few_before && all_hold (map stmt_few front) && expr_few x

    after_is : after ≡ tally outs_after few_after
    after_is = adds_test _ _ _ _ (adds_part _ _ _ _ along.before_is part_is) test_is

-- ---- measures

-- The front of a block that ends in an `if` is no deeper than the block, and the parts of the `if` are less deep.
pub parts_are_less : (left front : List Stmt) (x : Expr) (ss ts : List Stmt) → left ≡ front ++ s.If x ss ts ∷ [] →
    (most (λ t. size-Stmt t) front ≤ most (λ t. size-Stmt t) left) × (size-Expr x < most (λ t. size-Stmt t) left)
    × (most (λ t. size-Stmt t) ss < most (λ t. size-Stmt t) left) × (most (λ t. size-Stmt t) ts < most (λ t. size-Stmt t) left)
parts_are_less left front x ss ts is =
    let size = v.sized-If x ss ts in
    let all = within front in
    rw is (omega arith, omega arith, omega arith, omega arith)
  where
    within : (front : List Stmt) → (most (λ t. size-Stmt t) front ≤ most (λ t. size-Stmt t) (front ++ s.If x ss ts ∷ [])) × (size-Stmt (s.If x ss ts) ≤ most (λ t. size-Stmt t) (front ++ s.If x ss ts ∷ []))
    within [] = (omega arith, omega arith)
    within (y ∷ ys) = let rest = within ys in (omega arith, omega arith)

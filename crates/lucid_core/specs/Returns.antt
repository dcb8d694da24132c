-- The ends of bodies: a return is last in its block, and so is an if that returns on some path.
use Rattle.std.specs.Prelude.{List, [], ◌∷◌, Bool, true, false, not, ◌&&◌, ◌||◌, map, is_some}
use Rattle.std.specs.List.{list_all}
use Rattle.lucid_core.specs.declared.body.Expr.{Expr}
use Rattle.lucid_core.specs.declared.body.Stmt.{Stmt}
use Rattle.lucid_core.specs.declared.body.Touch.{Touch}
use Rattle.lucid_core.specs.declared.body.Expr.TheOpen.{Expr-F, Stmt-F, Touch-F}
use Rattle.lucid_core.specs.declared.body.Expr.TheFolds.{fold-Expr, fold-Stmt, fold-Touch}
use Rattle.lucid_core.specs.Children.{expr_children, stmt_children, touch_children}
use Rattle.lucid_core.specs.Parts.{CoreParts}

-- For a statement or a block: whether it returns on some path, whether it returns a value on some path, whether it returns on every path,
-- and whether each return in it is last in its block.
pub record Returns : Type 0 where
  pub some : Bool
  pub value : Bool
  pub always : Bool
  pub last : Bool

-- The returns of a form that does not return itself, made of these.
abbrev pub goes_on : List Returns → Returns
goes_on parts = record { some = false; value = false; always = false; last = list_all (λ r. r.last) parts }

abbrev pub is_end : {A : Type 0} → List A → Bool
is_end [] = true
is_end (x ∷ xs) = false

abbrev pub block_returns : List Returns → Returns
block_returns [] = goes_on []
block_returns (r ∷ rest) = let after = block_returns rest in record {
  some = r.some || after.some;
  value = r.value || after.value;
  always = r.always || after.always;
  last = r.last && after.last && (not r.some || is_end rest);
}

-- After a condition.
abbrev pub either : Returns → Returns → Returns → Returns
either condition first second = record {
  some = first.some || second.some;
  value = first.value || second.value;
  always = first.always && second.always;
  last = condition.last && first.last && second.last;
}

-- A return in an `Inlined` ends it alone; where it gives a value, it always returns.
abbrev pub inlined_returns : Returns → Returns → Returns
inlined_returns args body = record { some = false; value = false; always = false; last = args.last && body.last && (not body.value || body.always) }

abbrev pub expr_step : Expr-F Returns Returns Returns → Returns
expr_step (Expr-F.Inlined given ss) = inlined_returns (goes_on (map (λ g. g.1) given)) (block_returns ss)
expr_step e = goes_on (expr_children e)

abbrev pub touch_step : Touch-F Returns Returns Returns → Returns
touch_step t = goes_on (touch_children t)

abbrev pub stmt_step : Stmt-F Returns Returns Returns → Returns
stmt_step (Stmt-F.If x ss ts) = either x (block_returns ss) (block_returns ts)
stmt_step (Stmt-F.Return x) = record { some = true; value = is_some x; always = true; last = list_all (λ r. r.last) (stmt_children (Stmt-F.Return x)) }
stmt_step s = goes_on (stmt_children s)

abbrev pub expr_returns : Expr → Returns
expr_returns = fold-Expr Returns Returns Returns expr_step stmt_step touch_step

abbrev pub stmt_returns : Stmt → Returns
stmt_returns = fold-Stmt Returns Returns Returns expr_step stmt_step touch_step

abbrev pub touch_returns : Touch → Returns
touch_returns = fold-Touch Returns Returns Returns expr_step stmt_step touch_step

abbrev pub body_returns : List Stmt → Returns
body_returns ss = block_returns (map stmt_returns ss)

-- In all bodies; and a function with an answer always returns.
abbrev pub returns_stand_last : CoreParts → Bool
returns_stand_last parts =
    list_all (λ f. (body_returns f.body).last && (not (is_some f.answer) || (body_returns f.body).always)) parts.funs
    && list_all (λ h. (body_returns h.body).last) parts.handlers

-- Statements and blocks keep the rules where their parts do: a law a form.
use Rattle.std.specs.Prelude.{◌≡◌, ℕ, List, [], ◌∷◌, Option, Some, None, Bool, true, false, length, nat_le, slice_get}
use Rattle.lucid_core.specs.declared.body.Expr.{Expr}
use Rattle.lucid_core.specs.declared.body.Stmt.{Stmt}
use Rattle.lucid_core.specs.declared.body.Expr.TheOpen.{Stmt-F}
use Rattle.lucid_core.specs.declared.body.Expr.TheViews.{roll-Stmt}
use Rattle.lucid_core.specs.Limits.{are_members}
use Rattle.lucid_core.specs.Texts.{holes_of}
use Rattle.lucid_core.specs.Typing.{Answer}
use Rattle.lucid_core.specs.declared.ending.Ending.{Ending}
use Rattle.lucid_core.specs.declared.ending.Ending.TheVariants.{Never, Always}
use Rattle.lucid_core.specs.Endings.{of_either}
use Rattle.lucid_core_laws.specs.Keeps.{KeepsExpr, KeepsAll, MayKeep, KeepsStmt, KeepsBlock}
use Rattle.lucid_core_laws.specs.Place.{Place, behind}

-- An event with parameters of these widths, of which there are at most 8.
pub record IsEvent (p : Place) (event : ℕ) (ws : List ℕ) : Type 0 where
  pub there : slice_get p.scope.events event ≡ Some ws
  pub few : nat_le (length ws) 8 ≡ true

pub record StmtNodes : Type 0 where
  pub assign : (p : Place) (a : Answer) (i w : ℕ) (c : Expr) → slice_get p.scope.locals i ≡ Some w → KeepsExpr p (Some w) c → KeepsStmt p a Never (i ∷ []) (roll-Stmt (Stmt-F.Assign i c))
  pub drop_value : (p : Place) (a b : Answer) (c : Expr) → KeepsExpr p b c → KeepsStmt p a Never [] (roll-Stmt (Stmt-F.Drop c))
  pub choose : (p : Place) (a : Answer) (r q : Ending) (c : Expr) (ss ts : List Stmt) → KeepsExpr p (Some 1) c → KeepsBlock p a r ss → KeepsBlock p a q ts → KeepsStmt p a (of_either r q) [] (roll-Stmt (Stmt-F.If c ss ts))
  pub generate : (p : Place) (a : Answer) (event : ℕ) (ws : List ℕ) (cs : List Expr) (delay to : Option Expr) (delay_first : Bool) → IsEvent p event ws → KeepsAll p ws cs → MayKeep p delay → MayKeep p to →
      KeepsStmt p a Never [] (roll-Stmt (Stmt-F.Gen event cs delay to delay_first))
  -- only a core has groups
  pub to_each : (p : Place) (a : Answer) (event : ℕ) (ws : List ℕ) (cs : List Expr) (delay : Option Expr) (members : List ℕ) → p.flat ≡ false → IsEvent p event ws → are_members members ≡ true → KeepsAll p ws cs → MayKeep p delay →
      KeepsStmt p a Never [] (roll-Stmt (Stmt-F.Multi event cs delay members))
  pub say : (p : Place) (a : Answer) (form : ℕ) (text : List ℕ) (ws : List ℕ) (cs : List Expr) → slice_get p.scope.forms form ≡ Some text → length cs ≡ holes_of text → KeepsAll p ws cs →
      KeepsStmt p a Never [] (roll-Stmt (Stmt-F.Say form cs))
  pub return_nothing : (p : Place) → KeepsStmt p None Always [] (roll-Stmt (Stmt-F.Return None))
  pub return_value : (p : Place) (w : ℕ) (c : Expr) → KeepsExpr p (Some w) c → KeepsStmt p (Some w) Always [] (roll-Stmt (Stmt-F.Return (Some c)))
  -- a block of nothing, of a statement that doesn't return before others, and of one that is last
  pub empty : (p : Place) (a : Answer) → KeepsBlock p a Never []
  pub first : (p : Place) (a : Answer) (r : Ending) (k : List ℕ) (x : Stmt) (xs : List Stmt) → KeepsStmt p a Never k x → KeepsBlock (behind p k) a r xs → KeepsBlock p a r (x ∷ xs)
  pub last : (p : Place) (a : Answer) (r : Ending) (k : List ℕ) (x : Stmt) → KeepsStmt p a r k x → KeepsBlock p a r (x ∷ [])

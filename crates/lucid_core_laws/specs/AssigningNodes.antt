-- The locals that a block assigns, by its parts: for the rule that each local is assigned by some statement of its body.
use Rattle.std.specs.Prelude.{◌≡◌, ℕ, List, ◌∷◌, true}
use Rattle.lucid_core.specs.declared.body.Expr.{Expr}
use Rattle.lucid_core.specs.declared.body.Stmt.{Stmt}
use Rattle.lucid_core.specs.declared.body.Expr.TheOpen.{Stmt-F}
use Rattle.lucid_core.specs.declared.body.Expr.TheViews.{roll-Stmt}
use Rattle.lucid_base.specs.Numbers.{is_in}
use Rattle.lucid_core.specs.Uses.{body_uses}

-- Some statement of the block assigns the local.
abbrev pub Assigns : ℕ → List Stmt → Type 0
Assigns i ss = is_in i (body_uses ss).assigns ≡ true

pub record AssigningNodes : Type 0 where
  pub assign : (i : ℕ) (c : Expr) (xs : List Stmt) → Assigns i (roll-Stmt (Stmt-F.Assign i c) ∷ xs)
  pub later : (i : ℕ) (x : Stmt) (xs : List Stmt) → Assigns i xs → Assigns i (x ∷ xs)
  pub first_branch : (i : ℕ) (c : Expr) (ss ts xs : List Stmt) → Assigns i ss → Assigns i (roll-Stmt (Stmt-F.If c ss ts) ∷ xs)
  pub second_branch : (i : ℕ) (c : Expr) (ss ts xs : List Stmt) → Assigns i ts → Assigns i (roll-Stmt (Stmt-F.If c ss ts) ∷ xs)

-- Expressions and calls of arrays keep the rules where their parts do: a law a form.
use Rattle.std.specs.Prelude.{◌≡◌, ℕ, List, [], ◌∷◌, Some, None, true, false, if◌then◌else◌, is_some, map, take, slice_get}
use Rattle.lucid_base.specs.Memop.{memop_fits}
use Rattle.lucid_base.specs.declared.array.ArrayName.{ArrayName}
use Rattle.lucid_base.specs.declared.bits.Bits.{Bits}
use Rattle.lucid_base.specs.declared.ops.BinOp.{BinOp}
use Rattle.lucid_base.specs.declared.ops.CmpOp.{CmpOp}
use Rattle.lucid_base.specs.declared.ops.UnOp.{UnOp}
use Rattle.lucid_core.specs.declared.body.Expr.{Expr}
use Rattle.lucid_core.specs.declared.body.Stmt.{Stmt}
use Rattle.lucid_core.specs.declared.body.Touch.{Touch}
use Rattle.lucid_core.specs.declared.body.Expr.TheOpen.{Expr-F, Touch-F}
use Rattle.lucid_core.specs.declared.body.Expr.TheViews.{roll-Expr, roll-Touch}
use Rattle.lucid_core.specs.declared.defs.FunDef.{FunDef}
use Rattle.lucid_base.specs.Numbers.{is_in}
use Rattle.lucid_core.specs.Typing.{Answer, all_typed, cell_width}
use Rattle.lucid_core.specs.declared.ending.Ending.{Ending}
use Rattle.lucid_core.specs.Endings.{on_every_path}
use Rattle.lucid_core_laws.specs.Keeps.{KeepsExpr, KeepsTouch, KeepsAll, KeepsBlock}
use Rattle.lucid_core_laws.specs.Place.{Place, behind}

-- The arguments of an inlined call, each with the local of its width that is to hold it.
abbrev pub KeepsGiven : Place → List ℕ → List (ℕ × Expr) → Type 0
KeepsGiven p [] [] = Unit {0}
KeepsGiven p (w ∷ ws) (g ∷ given) = (slice_get p.scope.locals g.0 ≡ Some w) × KeepsExpr p (Some w) g.1 × KeepsGiven p ws given
KeepsGiven p _ _ = ⊥

pub record ExprNodes : Type 0 where
  pub fixed : (p : Place) (n : Bits) → KeepsExpr p (Some n.width) (roll-Expr (Expr-F.Fixed n))
  pub local : (p : Place) (i w : ℕ) → slice_get p.scope.locals i ≡ Some w → is_in i p.known ≡ true → KeepsExpr p (Some w) (roll-Expr (Expr-F.Local i))
  pub now : (p : Place) → KeepsExpr p (Some 32) (roll-Expr Expr-F.Now)
  pub me : (p : Place) → KeepsExpr p (Some 32) (roll-Expr Expr-F.Me)
  pub un : (p : Place) (w : ℕ) (op : UnOp) (c : Expr) → KeepsExpr p (Some w) c → KeepsExpr p (Some w) (roll-Expr (Expr-F.Un op c))
  pub bin : (p : Place) (w : ℕ) (op : BinOp) (c d : Expr) → KeepsExpr p (Some w) c → KeepsExpr p (Some w) d → KeepsExpr p (Some w) (roll-Expr (Expr-F.Bin op c d))
  pub cmp : (p : Place) (w : ℕ) (op : CmpOp) (c d : Expr) → KeepsExpr p (Some w) c → KeepsExpr p (Some w) d → KeepsExpr p (Some 1) (roll-Expr (Expr-F.Cmp op c d))
  pub cast : (p : Place) (w v : ℕ) (c : Expr) → KeepsExpr p (Some v) c → KeepsExpr p (Some w) (roll-Expr (Expr-F.Cast w c))
  -- a hash has its seed
  pub hash : (p : Place) (w v : ℕ) (vs : List ℕ) (c : Expr) (cs : List Expr) → KeepsAll p (v ∷ vs) (c ∷ cs) → KeepsExpr p (Some w) (roll-Expr (Expr-F.Hash w (c ∷ cs)))
  pub array : (p : Place) (a : Answer) (t : Touch) → KeepsTouch p a t → KeepsExpr p a (roll-Expr (Expr-F.Array t))
  pub touch : (p : Place) (w v : ℕ) (t : Touch-F Expr Stmt Touch) → cell_width t.array p.scope ≡ Some w → t.get.width ≡ w → t.set.width ≡ w → memop_fits t.get ≡ true → memop_fits t.set ≡ true →
      KeepsExpr p (Some v) t.index → KeepsExpr p (Some w) t.get_arg → KeepsExpr p (Some w) t.set_arg → KeepsTouch p (if t.answers then Some w else None) (roll-Touch t)
  -- a call in a core is given arrays and values of its function's widths
  pub call : (p : Place) (k : ℕ) (f : FunDef) (names : List ArrayName) (cs : List Expr) → p.flat ≡ false → slice_get p.scope.funs k ≡ Some f → all_typed (map cell_width names) p.scope ≡ Some f.arrays →
      KeepsAll p (take f.params f.locals) cs → KeepsExpr p f.answer (roll-Expr (Expr-F.Fun k names cs))
  -- a call in a flat program is inlined, and its body follows an assignment of its parameters
  pub inlined : (p : Place) (ws : List ℕ) (given : List (ℕ × Expr)) (a : Answer) (r : Ending) (ss : List Stmt) → p.flat ≡ true → KeepsGiven p ws given →
      KeepsBlock (behind p (map (λ g. g.0) given)) a r ss → (is_some a ≡ true → on_every_path r ≡ true) → KeepsExpr p a (roll-Expr (Expr-F.Inlined given ss))

-- The shape as a function: the memop of a body, where it has the shape of one.
use Rattle.std.specs.Prelude.{ℕ, if◌then◌else◌, nat_eq, List, [], ◌∷◌, Option, Some, None, option_map}
use Rattle.lucid_base.specs.declared.memory_alu.MemAlu.{MemAlu}
use Rattle.lucid_base.specs.declared.memory_alu.MemArg.{MemArg}
use Rattle.lucid_base.specs.declared.memory_alu.MemArg.TheVariants.{Stored, Arg, Fixed}
use Rattle.lucid_base.specs.declared.memory_alu.MemSide.{MemSide}
use Rattle.lucid_base.specs.declared.memory_alu.MemSide.TheVariants.{One, Two}
use Rattle.lucid_core.specs.declared.body.Expr.{Expr}
use Rattle.lucid_core.specs.declared.body.Expr.TheOpen.{Expr-F, Stmt-F}
use Rattle.lucid_core.specs.declared.body.Expr.TheViews.{out-Expr, out-Stmt}
use Rattle.lucid_core.specs.declared.body.Stmt.{Stmt}
use Rattle.lucid_core.specs.declared.body.Touch.{Touch}
use Rattle.lucid_core.specs.Typing.{◌>>=◌}
use Rattle.lucid_memop.specs.Shape.{apart, is_allowed}

abbrev pub operand_form : ℕ → Expr-F Expr Stmt Touch → Option MemArg
operand_form w (Expr-F.Local i) = if nat_eq i 0 then Some Stored else (if nat_eq i 1 then Some Arg else None)
operand_form w (Expr-F.Fixed n) = if nat_eq n.width w then Some (Fixed n.value) else None
operand_form w _ = None

abbrev pub operand_found : ℕ → Expr → Option MemArg
operand_found w x = operand_form w (out-Expr x)

abbrev pub operands_found : ℕ → Expr → Expr → Option (MemArg × MemArg)
operands_found w x y = do
  a ← operand_found w x
  b ← operand_found w y
  if apart a b then Some (a, b) else None

abbrev pub side_form : ℕ → Expr → Expr-F Expr Stmt Touch → Option MemSide
side_form w e (Expr-F.Bin op x y) = if is_allowed op then option_map (λ both. Two op both.0 both.1) (operands_found w x y) else None
side_form w e _ = option_map One (operand_found w e)

abbrev pub side_found : ℕ → Expr → Option MemSide
side_found w e = side_form w e (out-Expr e)

abbrev pub return_form : ℕ → Stmt-F Expr Stmt Touch → Option MemSide
return_form w (Stmt-F.Return (Some x)) = side_found w x
return_form w _ = None

-- the result of a branch
abbrev pub returned : ℕ → List Stmt → Option MemSide
returned w (s ∷ []) = return_form w (out-Stmt s)
returned w _ = None

abbrev pub choice_form : ℕ → List Stmt → List Stmt → Expr-F Expr Stmt Touch → Option MemAlu
choice_form w ss ts (Expr-F.Cmp op x y) = do
  both ← operands_found w x y
  first ← returned w ss
  second ← returned w ts
  Some (record { width = w; test = Some (op, both.0, both.1); yes = first; no = second })
choice_form w ss ts _ = None

abbrev pub choice_found : ℕ → Expr → List Stmt → List Stmt → Option MemAlu
choice_found w e ss ts = choice_form w ss ts (out-Expr e)

abbrev pub plain_found : ℕ → List Stmt → Option MemAlu
plain_found w body = option_map (λ side. record { width = w; test = None; yes = side; no = side }) (returned w body)

abbrev pub body_form : ℕ → List Stmt → Stmt-F Expr Stmt Touch → Option MemAlu
body_form w body (Stmt-F.If e ss ts) = choice_found w e ss ts
body_form w body _ = plain_found w body

abbrev pub shape_found : ℕ → List Stmt → Option MemAlu
shape_found w (s ∷ []) = body_form w (s ∷ []) (out-Stmt s)
shape_found w _ = None

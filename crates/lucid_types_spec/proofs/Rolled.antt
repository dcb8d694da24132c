-- The variants of a body are rolls, on which folds compute. So a core that is derived is one that is written out in rolls.
use Rattle.std.proofs.Common.{◌≡◌, ℕ, List, ◌∷◌, Option, sym, ap, ◌∙◌}
use Rattle.lucid_base.specs.declared.array.ArrayName.{ArrayName}
use Rattle.lucid_base.specs.declared.bits.Bits.{Bits}
use Rattle.lucid_base.specs.declared.ops.CmpOp.{CmpOp}
use Rattle.lucid_core.specs.declared.body.Expr.{Expr}
use Rattle.lucid_core.specs.declared.body.Expr.TheVariants as expr
use Rattle.lucid_core.specs.declared.body.Stmt.{Stmt}
use Rattle.lucid_core.specs.declared.body.Stmt.TheVariants as core
use Rattle.lucid_core.specs.declared.body.Touch.{Touch}
use Rattle.lucid_core.specs.declared.body.Expr.TheOpen.{Expr-F, Stmt-F, Touch-F}
use Rattle.lucid_core.specs.declared.body.Expr.TheViews.{roll-Expr, roll-Stmt}

-- ---- two lists whose parts are the same

pub parts : {A : Type 0} {x y : A} {xs ys : List A} → x ≡ y → xs ≡ ys → x ∷ xs ≡ y ∷ ys
parts {x = x} {ys = ys} is are = ap (λ zs. x ∷ zs) are ∙ ap (λ z. z ∷ ys) is

-- ---- expressions

pub fixed : (n : Bits) → expr.Fixed n ≡ roll-Expr (Expr-F.Fixed n)
fixed n = sym (expr.rolls-Fixed n)

pub local : (i : ℕ) → expr.Local i ≡ roll-Expr (Expr-F.Local i)
local i = sym (expr.rolls-Local i)

pub cmp : (op : CmpOp) {x y c d : Expr} → x ≡ c → y ≡ d → expr.Cmp op x y ≡ roll-Expr (Expr-F.Cmp op c d)
cmp op {x} {d = d} one two = ap (λ (z : Expr). expr.Cmp op x z) two ∙ ap (λ (z : Expr). expr.Cmp op z d) one ∙ sym (expr.rolls-Cmp op _ _)

pub array : {t u : Touch} → t ≡ u → expr.Array t ≡ roll-Expr (Expr-F.Array u)
array is = ap expr.Array is ∙ sym (expr.rolls-Array _)

pub call : (k : ℕ) (names : List ArrayName) {xs cs : List Expr} → xs ≡ cs → expr.Fun k names xs ≡ roll-Expr (Expr-F.Fun k names cs)
call k names are = ap (expr.Fun k names) are ∙ sym (expr.rolls-Fun k names _)

pub touched : (t : Touch-F Expr Stmt Touch) {i x y : Expr} → i ≡ t.index → x ≡ t.get_arg → y ≡ t.set_arg →
    record t { index = i; get_arg = x; set_arg = y } ≡ t
touched t {i} {x} {y} one two three =
    ap (λ (z : Expr). record t { index = i; get_arg = x; set_arg = z }) three ∙ ap (λ (z : Expr). record t { index = i; get_arg = z }) two
    ∙ ap (λ (z : Expr). record t { index = z }) one

-- ---- statements

pub assign : (i : ℕ) {x c : Expr} → x ≡ c → core.Assign i x ≡ roll-Stmt (Stmt-F.Assign i c)
assign i is = ap (core.Assign i) is ∙ sym (core.rolls-Assign i _)

pub choose : {x c : Expr} {ss ts us vs : List Stmt} → x ≡ c → ss ≡ us → ts ≡ vs → core.If x ss ts ≡ roll-Stmt (Stmt-F.If c us vs)
choose {x} {ss = ss} {us = us} {vs = vs} is one two =
    ap (λ (zs : List Stmt). core.If x ss zs) two ∙ ap (λ (zs : List Stmt). core.If x zs vs) one ∙ ap (λ (z : Expr). core.If z us vs) is ∙ sym (core.rolls-If _ _ _)

pub to_each : (event : ℕ) (members : List ℕ) {xs cs : List Expr} {delay late : Option Expr} → xs ≡ cs → delay ≡ late →
    core.Multi event xs delay members ≡ roll-Stmt (Stmt-F.Multi event cs late members)
to_each event members {xs} {late = late} are is =
    ap (λ (z : Option Expr). core.Multi event xs z members) is ∙ ap (λ (zs : List Expr). core.Multi event zs late members) are ∙ sym (core.rolls-Multi event _ _ members)

pub say : (form : ℕ) {xs cs : List Expr} → xs ≡ cs → core.Say form xs ≡ roll-Stmt (Stmt-F.Say form cs)
say form are = ap (core.Say form) are ∙ sym (core.rolls-Say form _)

pub returned : {x c : Option Expr} → x ≡ c → core.Return x ≡ roll-Stmt (Stmt-F.Return c)
returned is = ap core.Return is ∙ sym (core.rolls-Return _)

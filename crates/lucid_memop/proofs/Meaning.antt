-- The meaning of a body of a memop's shape.
use Rattle.std.proofs.Common.{◌≡◌, ℕ, ◌^◌, ◌%◌, List, [], ◌∷◌, Some, Bool, true, false, if◌then◌else◌, map, refl, sym, ap, subst, ◌∙◌}
use Rattle.std.proofs.Math.Nat.{mod-eq_of_lt}
use Rattle.lucid_base.specs.Bits.{bits_of}
use Rattle.lucid_base.specs.Bool.{bit_of}
use Rattle.lucid_base.specs.Memop.{operand_of, side_of}
use Rattle.lucid_base.specs.Ops.{bin_of, cmp_of, low_of}
use Rattle.lucid_base.specs.declared.bits.Bits.{Bits}
use Rattle.lucid_base.specs.declared.ops.BinOp.{BinOp}
use Rattle.lucid_base.specs.declared.ops.CmpOp.{CmpOp}
use Rattle.lucid_base.specs.declared.memory_alu.MemAlu.{MemAlu}
use Rattle.lucid_base.specs.declared.memory_alu.MemArg.{MemArg}
use Rattle.lucid_base.specs.declared.memory_alu.MemSide.{MemSide}
use Rattle.lucid_base.proofs.BitsLemmas.{is_bits_of}
use Rattle.lucid_core.specs.declared.body.Expr.{Expr}
use Rattle.lucid_core.specs.declared.body.Expr.TheOpen.{Expr-F, Stmt-F}
use Rattle.lucid_core.specs.declared.body.Expr.TheFolds.{fold-roll-Expr, fold-roll-Stmt}
use Rattle.lucid_core.specs.declared.body.Expr.TheVariants as e
use Rattle.lucid_core.specs.declared.body.Stmt.{Stmt}
use Rattle.lucid_core.specs.declared.body.Stmt.TheVariants as stmt
use Rattle.lucid_core.specs.Computations.{Computation, Effect, Frame, State, Ran, block, give}
use Rattle.lucid_core.specs.Meaning.{effect_of, expr_step, stmt_step, touch_step, value_of}
use Rattle.lucid_core.specs.Values.{nothing, binary, comparison}
use Rattle.lucid_memop.specs.Laws.{MeansItsBody}
use Rattle.lucid_memop.specs.Shape.{Operand, Side, Shaped}
use Rattle.lucid_memop.specs.Shape as rule

-- Forms of the meaning, at their parts.

fixed_is : (n : Bits) → value_of (e.Fixed n) ≡ give n
fixed_is n = ap value_of (sym (e.rolls-Fixed n)) ∙ fold-roll-Expr (Computation Bits) Effect (Computation Bits) expr_step stmt_step touch_step (Expr-F.Fixed n)

local_is : (i : ℕ) → value_of (e.Local i) ≡ expr_step (Expr-F.Local i)
local_is i = ap value_of (sym (e.rolls-Local i)) ∙ fold-roll-Expr (Computation Bits) Effect (Computation Bits) expr_step stmt_step touch_step (Expr-F.Local i)

bin_is : (op : BinOp) (x y : Expr) → value_of (e.Bin op x y) ≡ expr_step (Expr-F.Bin op (value_of x) (value_of y))
bin_is op x y = ap value_of (sym (e.rolls-Bin op x y)) ∙ fold-roll-Expr (Computation Bits) Effect (Computation Bits) expr_step stmt_step touch_step (Expr-F.Bin op x y)

cmp_is : (op : CmpOp) (x y : Expr) → value_of (e.Cmp op x y) ≡ expr_step (Expr-F.Cmp op (value_of x) (value_of y))
cmp_is op x y = ap value_of (sym (e.rolls-Cmp op x y)) ∙ fold-roll-Expr (Computation Bits) Effect (Computation Bits) expr_step stmt_step touch_step (Expr-F.Cmp op x y)

return_is : (x : Expr) → effect_of (stmt.Return (Some x)) ≡ stmt_step (Stmt-F.Return (Some (value_of x)))
return_is x = ap effect_of (sym (stmt.rolls-Return (Some x))) ∙ fold-roll-Stmt (Computation Bits) Effect (Computation Bits) expr_step stmt_step touch_step (Stmt-F.Return (Some x))

if_is : (x : Expr) (ss ts : List Stmt) → effect_of (stmt.If x ss ts) ≡ stmt_step (Stmt-F.If (value_of x) (map effect_of ss) (map effect_of ts))
if_is x ss ts = ap effect_of (sym (stmt.rolls-If x ss ts)) ∙ fold-roll-Stmt (Computation Bits) Effect (Computation Bits) expr_step stmt_step touch_step (Stmt-F.If x ss ts)

-- Where a body runs that is called on these two.
abbrev begun : ℕ → ℕ → ℕ → State → State
begun w m n s = record s { locals = bits_of w m ∷ bits_of w n ∷ []; answer = nothing }

abbrev Value : Expr → ℕ → ℕ → Frame → State → Type 0
Value x w k p s = (v : Bits) × (value_of x p s ≡ give v p s) × (v.width ≡ w) × (v.value ≡ k)

operand : {w : ℕ} {x : Expr} {a : MemArg} → Operand w x a → (m n : ℕ) (p : Frame) (s : State) →
    Value x w (operand_of a w (low_of w m) (low_of w n)) p (begun w m n s)
operand (rule.stored w) m n p s = (bits_of w m, ap (λ (f : Computation Bits). f p (begun w m n s)) (local_is 0), refl, refl)
operand (rule.argument w) m n p s = (bits_of w n, ap (λ (f : Computation Bits). f p (begun w m n s)) (local_is 1), refl, refl)
operand (rule.number w k is) m n p s =
    (k, ap (λ (f : Computation Bits). f p (begun w m n s)) (fixed_is k), is, sym (subst (λ (v : ℕ). k.value % 2 ^ v ≡ k.value) is (mod-eq_of_lt k.fits)))

binary_is : (op : BinOp) (a b : Bits) (w x y : ℕ) → a.width ≡ w → a.value ≡ x → b.width ≡ w → b.value ≡ y → binary op a b ≡ bits_of w (bin_of op w x y)
binary_is op a b w x y wa xa wb yb =
    let low : b.value % 2 ^ w ≡ b.value = subst (λ (v : ℕ). b.value % 2 ^ v ≡ b.value) wb (mod-eq_of_lt b.fits) in
    rw (wa, xa, low, yb) refl

comparison_is : (op : CmpOp) (a b : Bits) (w x y : ℕ) → a.width ≡ w → a.value ≡ x → b.width ≡ w → b.value ≡ y → comparison op a b ≡ bits_of 1 (bit_of (cmp_of op x y))
comparison_is op a b w x y wa xa wb yb =
    let low : b.value % 2 ^ w ≡ b.value = subst (λ (v : ℕ). b.value % 2 ^ v ≡ b.value) wb (mod-eq_of_lt b.fits) in
    rw (wa, xa, low, yb) refl

side : {w : ℕ} {x : Expr} {a : MemSide} → Side w x a → (m n : ℕ) (p : Frame) (s : State) →
    value_of x p (begun w m n s) ≡ give (bits_of w (side_of a w (low_of w m) (low_of w n))) p (begun w m n s)
side (rule.one w x a of) m n p s =
    let v = operand of m n p s in v.1 ∙ ap (λ (u : Bits). give u p (begun w m n s)) (is_bits_of v.0 w _ v.2 v.3)
side (rule.two w op x y a b ok of and far) m n p s =
    let u = operand of m n p s in
    let v = operand and m n p s in
    ap (λ (f : Computation Bits). f p (begun w m n s)) (bin_is op x y)
    ∙ rw (u.1, v.1) (ap (λ (z : Bits). give z p (begun w m n s)) (binary_is op u.0 v.0 w _ _ u.2 u.3 v.2 v.3))

-- A run that answers this and does nothing else.
abbrev answered : Bits → State → Ran (Unit {0})
answered v s = record { gives = tt; after = record s { answer = v }; calls = [] }

returned : (x : Expr) (v : Bits) (p : Frame) (s : State) → value_of x p s ≡ give v p s → block (map effect_of (stmt.Return (Some x) ∷ [])) p s ≡ answered v s
returned x v p s is = ap (λ (f : Effect). block (f ∷ []) p s) (return_is x) ∙ rw is refl

compared : {w : ℕ} {x y : Expr} {a b : MemArg} (op : CmpOp) → Operand w x a → Operand w y b → (m n : ℕ) (p : Frame) (s : State) →
    value_of (e.Cmp op x y) p (begun w m n s)
    ≡ give (bits_of 1 (bit_of (cmp_of op (operand_of a w (low_of w m) (low_of w n)) (operand_of b w (low_of w m) (low_of w n))))) p (begun w m n s)
compared {w} {x} {y} op of and m n p s =
    let u = operand of m n p s in
    let v = operand and m n p s in
    ap (λ (f : Computation Bits). f p (begun w m n s)) (cmp_is op x y)
    ∙ rw (u.1, v.1) (ap (λ (z : Bits). give z p (begun w m n s)) (comparison_is op u.0 v.0 w _ _ u.2 u.3 v.2 v.3))

tested : (c : Expr) (ss ts : List Stmt) (b : Bool) (v : Bits) (p : Frame) (s : State) → value_of c p s ≡ give (bits_of 1 (bit_of b)) p s →
    block (map effect_of (if b then ss else ts)) p s ≡ answered v s → block (map effect_of (stmt.If c ss ts ∷ [])) p s ≡ answered v s
tested c ss ts true v p s is of = ap (λ (f : Effect). block (f ∷ []) p s) (if_is c ss ts) ∙ rw (is, of) refl
tested c ss ts false v p s is of = ap (λ (f : Effect). block (f ∷ []) p s) (if_is c ss ts) ∙ rw (is, of) refl

branches : (u v : Expr) (f g : Bits) (b : Bool) (p : Frame) (s : State) → value_of u p s ≡ give f p s → value_of v p s ≡ give g p s →
    block (map effect_of (if b then stmt.Return (Some u) ∷ [] else (stmt.Return (Some v) ∷ []))) p s ≡ answered (if b then f else g) s
branches u v f g true p s is and = returned u f p s is
branches u v f g false p s is and = returned v g p s and

-- The result of a call whose body ran so.
abbrev ended : State → Ran (Unit {0}) → Ran Bits
ended s ran = record { gives = ran.after.answer; after = record ran.after { locals = s.locals; answer = s.answer }; calls = ran.calls }

side_chosen : (b : Bool) (first second : MemSide) (w x y : ℕ) →
    (if b then bits_of w (side_of first w x y) else bits_of w (side_of second w x y)) ≡ bits_of w (side_of (if b then first else second) w x y)
side_chosen true first second w x y = refl
side_chosen false first second w x y = refl

pub means : (w : ℕ) (body : List Stmt) (m : MemAlu) → Shaped w body m → MeansItsBody w body m
means _ _ _ (rule.plain w x m1 of) m n p s = ap (ended s) (returned x _ p (begun w m n s) (side of m n p s))
means _ _ _ (rule.choice w op x y u v a b first second of and far taken other) m n p s =
    let holds = cmp_of op (operand_of a w (low_of w m) (low_of w n)) (operand_of b w (low_of w m) (low_of w n)) in
    let answer = branches u v _ _ holds p (begun w m n s) (side taken m n p s) (side other m n p s) in
    ap (ended s) (tested (e.Cmp op x y) _ _ holds _ p (begun w m n s) (compared op of and m n p s) answer)
    ∙ ap (λ (z : Bits). give z p s) (side_chosen holds first second w (low_of w m) (low_of w n))

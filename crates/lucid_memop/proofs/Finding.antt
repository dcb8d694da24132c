-- The found memop is the shape, both ways.
use Rattle.std.proofs.Common.{◌≡◌, ℕ, List, [], ◌∷◌, Option, None, Some, Bool, true, false, if◌then◌else◌, nat_eq, option_map, refl, sym, ap, subst, ◌∙◌, ◌↔◌}
use Rattle.std.proofs.lemmas.Bool.{eqb-true, eq-eqb}
use Rattle.lucid_base.specs.declared.bits.Bits.{Bits}
use Rattle.lucid_base.specs.declared.memory_alu.MemAlu.{MemAlu}
use Rattle.lucid_base.specs.declared.memory_alu.MemArg.{MemArg}
use Rattle.lucid_base.specs.declared.memory_alu.MemArg.TheVariants.{Stored, Arg, Fixed}
use Rattle.lucid_base.specs.declared.memory_alu.MemSide.{MemSide}
use Rattle.lucid_base.specs.declared.memory_alu.MemSide.TheVariants.{One, Two}
use Rattle.lucid_base.specs.declared.ops.CmpOp.{CmpOp}
use Rattle.lucid_core.specs.declared.body.Expr.{Expr}
use Rattle.lucid_core.specs.declared.body.Expr.TheOpen.{Expr-F, Stmt-F}
use Rattle.lucid_core.specs.declared.body.Expr.TheVariants as e
use Rattle.lucid_core.specs.declared.body.Expr.TheViews.{out-Expr, out-Stmt, roll-Expr, roll-Stmt, roll-out-Expr, roll-out-Stmt}
use Rattle.lucid_core.specs.declared.body.Stmt.{Stmt}
use Rattle.lucid_core.specs.declared.body.Stmt.TheVariants as s
use Rattle.lucid_core.specs.declared.body.Touch.{Touch}
use Rattle.lucid_memop.specs.Found.{body_form, choice_form, operand_form, operand_found, operands_found, return_form, returned, shape_found, side_form, side_found}
use Rattle.lucid_memop.specs.Shape.{Operand, Side, Shaped, apart, is_allowed}
use Rattle.lucid_memop.specs.Shape as rule
use Rattle.lucid_memop.proofs.Parts.{bound, chosen, mapped, same_some}

-- From the shape to the finding.

operand : {w : ℕ} {x : Expr} {a : MemArg} → Operand w x a → operand_found w x ≡ Some a
operand (rule.stored w) = ap (operand_form w) (e.outs-Local 0)
operand (rule.argument w) = ap (operand_form w) (e.outs-Local 1)
operand (rule.number w n is) = ap (operand_form w) (e.outs-Fixed n) ∙ rw (eq-eqb n.width w is) refl

operands : {w : ℕ} {x y : Expr} {a b : MemArg} → Operand w x a → Operand w y b → apart a b ≡ true → operands_found w x y ≡ Some (a, b)
operands of and far = rw (operand of, operand and, far) refl

one : {w : ℕ} {x : Expr} {a : MemArg} → Operand w x a → side_found w x ≡ Some (One a)
one (rule.stored w) = ap (side_form w (e.Local 0)) (e.outs-Local 0) ∙ rw (operand (rule.stored w)) refl
one (rule.argument w) = ap (side_form w (e.Local 1)) (e.outs-Local 1) ∙ rw (operand (rule.argument w)) refl
one (rule.number w n is) = ap (side_form w (e.Fixed n)) (e.outs-Fixed n) ∙ rw (operand (rule.number w n is)) refl

side : {w : ℕ} {x : Expr} {m : MemSide} → Side w x m → side_found w x ≡ Some m
side (rule.one w x a of) = one of
side (rule.two w op x y a b ok of and far) = ap (side_form w (e.Bin op x y)) (e.outs-Bin op x y) ∙ rw (ok, operands of and far) refl

branch : {w : ℕ} {x : Expr} {m : MemSide} → Side w x m → returned w (s.Return (Some x) ∷ []) ≡ Some m
branch {w} {x} of = ap (return_form w) (s.outs-Return (Some x)) ∙ side of

pub shape : {w : ℕ} {body : List Stmt} {m : MemAlu} → Shaped w body m → shape_found w body ≡ Some m
shape (rule.plain w x m of) = ap (body_form w (s.Return (Some x) ∷ [])) (s.outs-Return (Some x)) ∙ rw (branch of) refl
shape (rule.choice w op x y u v a b first second of and far taken other) =
    ap (body_form w (s.If (e.Cmp op x y) (s.Return (Some u) ∷ []) (s.Return (Some v) ∷ []) ∷ [])) (s.outs-If (e.Cmp op x y) (s.Return (Some u) ∷ []) (s.Return (Some v) ∷ []))
    ∙ ap (choice_form w (s.Return (Some u) ∷ []) (s.Return (Some v) ∷ [])) (e.outs-Cmp op x y)
    ∙ rw (operands of and far, branch taken, branch other) refl

-- From the finding to the shape.

local_at : (w i : ℕ) (a : MemArg) (zero one : Bool) → nat_eq i 0 ≡ zero → nat_eq i 1 ≡ one → (if zero then Some Stored else (if one then Some Arg else None)) ≡ Some a →
    Operand w (e.Local i) a
local_at w i a true one z o h = let same : Stored ≡ a = cc in
    subst (Operand w (e.Local i)) same (subst (λ (j : ℕ). Operand w (e.Local j) Stored) (sym (eqb-true i 0 z)) (rule.stored w))
local_at w i a false true z o h = let same : Arg ≡ a = cc in
    subst (Operand w (e.Local i)) same (subst (λ (j : ℕ). Operand w (e.Local j) Arg) (sym (eqb-true i 1 o)) (rule.argument w))
local_at w i a false false z o h = absurd (cc)

number_at : (w : ℕ) (n : Bits) (a : MemArg) (b : Bool) → nat_eq n.width w ≡ b → (if b then Some (Fixed n.value) else None) ≡ Some a → Operand w (e.Fixed n) a
number_at w n a true is h = let same : Fixed n.value ≡ a = cc in subst (Operand w (e.Fixed n)) same (rule.number w n (eqb-true n.width w is))
number_at w n a false is h = absurd (cc)

operand_at : (w : ℕ) (y : Expr-F Expr Stmt Touch) (a : MemArg) → operand_form w y ≡ Some a → Operand w (roll-Expr y) a
operand_at w (Expr-F.Local i) a h = subst (λ (x : Expr). Operand w x a) (sym (e.rolls-Local i)) (local_at w i a _ _ refl refl h)
operand_at w (Expr-F.Fixed n) a h = subst (λ (x : Expr). Operand w x a) (sym (e.rolls-Fixed n)) (number_at w n a _ refl h)
operand_at w _ a h = absurd (cc)

is_operand : (w : ℕ) (x : Expr) (a : MemArg) → operand_found w x ≡ Some a → Operand w x a
is_operand w x a h = subst (λ (z : Expr). Operand w z a) (roll-out-Expr x) (operand_at w (out-Expr x) a h)

are_operands : (w : ℕ) (x y : Expr) (both : MemArg × MemArg) → operands_found w x y ≡ Some both →
    Operand w x both.0 × Operand w y both.1 × (apart both.0 both.1 ≡ true)
are_operands w x y both h =
    let first = bound (operand_found w x) _ both h in
    let second = bound (operand_found w y) _ both first.2 in
    let far = chosen (apart first.0 second.0) (Some (first.0, second.0)) both second.2 in
    let same : (first.0, second.0) ≡ both = cc in
    subst (λ (p : MemArg × MemArg). Operand w x p.0 × Operand w y p.1 × (apart p.0 p.1 ≡ true)) same
    (is_operand w x first.0 first.1, is_operand w y second.0 second.1, far.0)

one_at : (w : ℕ) (x : Expr) (m : MemSide) → option_map One (operand_found w x) ≡ Some m → Side w x m
one_at w x m h = let found = mapped One (operand_found w x) m h in subst (Side w x) found.2 (rule.one w x found.0 (is_operand w x found.0 found.1))

side_at : (w : ℕ) (x : Expr) (y : Expr-F Expr Stmt Touch) (m : MemSide) → roll-Expr y ≡ x → side_form w x y ≡ Some m → Side w x m
side_at w x (Expr-F.Bin op u v) m is h =
    let ok = chosen (is_allowed op) _ m h in
    let found = mapped (λ both. Two op both.0 both.1) (operands_found w u v) m ok.1 in
    let parts = are_operands w u v found.0 found.1 in
    subst (λ (z : Expr). Side w z m) (sym (e.rolls-Bin op u v) ∙ is)
    (subst (Side w (e.Bin op u v)) found.2 (rule.two w op u v found.0.0 found.0.1 ok.0 parts.0 parts.1 parts.2))
side_at w x _ m is h = one_at w x m h

is_side : (w : ℕ) (x : Expr) (m : MemSide) → side_found w x ≡ Some m → Side w x m
is_side w x m h = side_at w x (out-Expr x) m (roll-out-Expr x) h

return_at : (w : ℕ) (y : Stmt-F Expr Stmt Touch) (m : MemSide) → return_form w y ≡ Some m → (x : Expr) × (roll-Stmt y ≡ s.Return (Some x)) × Side w x m
return_at w (Stmt-F.Return (Some x)) m h = (x, s.rolls-Return (Some x), is_side w x m h)
return_at w _ m h = absurd (cc)

-- A block that returns a side is one return of it.
returns : (w : ℕ) (body : List Stmt) (m : MemSide) → returned w body ≡ Some m → (x : Expr) × (body ≡ s.Return (Some x) ∷ []) × Side w x m
returns w (t ∷ []) m h = let of = return_at w (out-Stmt t) m h in (of.0, ap (λ (z : Stmt). z ∷ []) (sym (roll-out-Stmt t) ∙ of.1), of.2)
returns w _ m h = absurd (cc)

abbrev Returns : ℕ → List Stmt → MemSide → Type 0
Returns w body m = (x : Expr) × (body ≡ s.Return (Some x) ∷ []) × Side w x m

choice_of : (w : ℕ) (op : CmpOp) (x y c : Expr) (ss ts : List Stmt) (a b : MemArg) (first second : MemSide) → e.Cmp op x y ≡ c →
    Operand w x a → Operand w y b → apart a b ≡ true → Returns w ss first → Returns w ts second →
    Shaped w (s.If c ss ts ∷ []) (record { width = w; test = Some (op, a, b); yes = first; no = second })
choice_of w op x y c ss ts a b first second is of and far u v =
    let m : MemAlu = record { width = w; test = Some (op, a, b); yes = first; no = second } in
    subst (λ (z : Expr). Shaped w (s.If z ss ts ∷ []) m) is
    (subst (λ (xs : List Stmt). Shaped w (s.If (e.Cmp op x y) xs ts ∷ []) m) (sym u.1)
    (subst (λ (xs : List Stmt). Shaped w (s.If (e.Cmp op x y) (s.Return (Some u.0) ∷ []) xs ∷ []) m) (sym v.1)
    (rule.choice w op x y u.0 v.0 a b first second of and far u.2 v.2)))

choice_at : (w : ℕ) (c : Expr) (ss ts : List Stmt) (y : Expr-F Expr Stmt Touch) (m : MemAlu) → roll-Expr y ≡ c → choice_form w ss ts y ≡ Some m →
    Shaped w (s.If c ss ts ∷ []) m
choice_at w c ss ts (Expr-F.Cmp op x y) m is h =
    let tested = bound (operands_found w x y) _ m h in
    let first = bound (returned w ss) _ m tested.2 in
    let second = bound (returned w ts) _ m first.2 in
    let parts = are_operands w x y tested.0 tested.1 in
    subst (Shaped w (s.If c ss ts ∷ [])) (same_some _ m second.2)
    (choice_of w op x y c ss ts tested.0.0 tested.0.1 first.0 second.0 (sym (e.rolls-Cmp op x y) ∙ is) parts.0 parts.1 parts.2
    (returns w ss first.0 first.1) (returns w ts second.0 second.1))
choice_at w c ss ts _ m is h = absurd (cc)

plain_at : (w : ℕ) (body : List Stmt) (m : MemAlu) → option_map (λ side. record { width = w; test = None; yes = side; no = side }) (returned w body) ≡ Some m → Shaped w body m
plain_at w body m h =
    let found = mapped (λ side. record { width = w; test = None; yes = side; no = side }) (returned w body) m h in
    let of = returns w body found.0 found.1 in
    subst (λ (xs : List Stmt). Shaped w xs m) (sym of.1) (subst (Shaped w (s.Return (Some of.0) ∷ [])) found.2 (rule.plain w of.0 found.0 of.2))

body_at : (w : ℕ) (t : Stmt) (y : Stmt-F Expr Stmt Touch) (m : MemAlu) → roll-Stmt y ≡ t → body_form w (t ∷ []) y ≡ Some m → Shaped w (t ∷ []) m
body_at w t (Stmt-F.If c ss ts) m is h =
    subst (λ (z : Stmt). Shaped w (z ∷ []) m) (sym (s.rolls-If c ss ts) ∙ is) (choice_at w c ss ts (out-Expr c) m (roll-out-Expr c) h)
body_at w t _ m is h = plain_at w (t ∷ []) m h

pub is_shape : (w : ℕ) (body : List Stmt) (m : MemAlu) → shape_found w body ≡ Some m → Shaped w body m
is_shape w (t ∷ []) m h = body_at w t (out-Stmt t) m (roll-out-Stmt t) h
is_shape w _ m h = absurd (cc)

pub exact : (w : ℕ) (body : List Stmt) (found : Option MemAlu) → found ≡ shape_found w body → (m : MemAlu) → (found ≡ Some m) ↔ Shaped w body m
exact w body found is m = (λ h. is_shape w body m (sym is ∙ h), λ of. is ∙ shape of)

-- The finding of a walk for each form with several parts, by its findings for the parts.
use Rattle.std.proofs.Common.{◌≡◌, ℕ, List, map, Bool, Option, None, Some, option_map, refl, ap, sym, ◌∙◌}
use Rattle.lucid_base.specs.declared.array.ArrayName.{ArrayName}
use Rattle.lucid_base.specs.declared.ops.BinOp.{BinOp}
use Rattle.lucid_base.specs.declared.ops.CmpOp.{CmpOp}
use Rattle.lucid_base.specs.declared.ops.UnOp.{UnOp}
use Rattle.lucid_core.specs.declared.body.Expr.{Expr}
use Rattle.lucid_core.specs.declared.body.Stmt.{Stmt}
use Rattle.lucid_core.specs.declared.body.Touch.{Touch}
use Rattle.lucid_core.specs.declared.body.Expr.TheFolds.{fold-roll-Expr, fold-roll-Stmt, map-Expr, map-Stmt}
use Rattle.lucid_core.specs.declared.body.Expr.TheOpen.{Expr-F, Stmt-F}
use Rattle.lucid_core.specs.declared.body.Expr.TheVariants as e
use Rattle.lucid_core.specs.declared.body.Expr.TheViews.{roll-Expr, roll-Stmt}
use Rattle.lucid_core.specs.declared.body.Stmt.TheVariants as s
use Rattle.lucid_effects_spec.specs.Evaluation.{both, expr_step, optional, sequence, stmt_step, touch_step}
use Rattle.lucid_effects_spec.specs.declared.scheme.Scheme.{Scheme}
use Rattle.lucid_effects_spec.specs.Schemes.{Advance, Walked, body_found, either, expr_found, finds, given_found, goes_through, stmt_found}
use Rattle.lucid_effects_spec.specs.Schemes.{touch_found, visit}

expr_is : (x : Expr) (y : Expr-F Expr Stmt Touch) → roll-Expr y ≡ x → (fs : List Scheme) (w : Walked) →
    expr_found x fs w ≡ expr_step finds (map-Expr Expr Stmt Touch Advance Advance Advance expr_found stmt_found touch_found y) fs w
expr_is x y is fs w = ap (λ (z : Expr). expr_found z fs w) (sym is)
    ∙ ap (λ (f : Advance). f fs w) (fold-roll-Expr Advance Advance Advance (expr_step finds) (stmt_step finds) (touch_step finds) y)

stmt_is : (x : Stmt) (y : Stmt-F Expr Stmt Touch) → roll-Stmt y ≡ x → (fs : List Scheme) (w : Walked) →
    stmt_found x fs w ≡ stmt_step finds (map-Stmt Expr Stmt Touch Advance Advance Advance expr_found stmt_found touch_found y) fs w
stmt_is x y is fs w = ap (λ (z : Stmt). stmt_found z fs w) (sym is)
    ∙ ap (λ (f : Advance). f fs w) (fold-roll-Stmt Advance Advance Advance (expr_step finds) (stmt_step finds) (touch_step finds) y)

pub un_is : (op : UnOp) (a : Expr) (fs : List Scheme) (w : Walked) → expr_found (e.Un op a) fs w ≡ expr_found a fs (visit w)
un_is op a = expr_is (e.Un op a) (Expr-F.Un op a) (e.rolls-Un op a)

pub cast_is : (width : ℕ) (a : Expr) (fs : List Scheme) (w : Walked) → expr_found (e.Cast width a) fs w ≡ expr_found a fs (visit w)
cast_is width a = expr_is (e.Cast width a) (Expr-F.Cast width a) (e.rolls-Cast width a)

pub array_is : (t : Touch) (fs : List Scheme) (w : Walked) → expr_found (e.Array t) fs w ≡ touch_found t fs (visit w)
array_is t = expr_is (e.Array t) (Expr-F.Array t) (e.rolls-Array t)

pub bin_is : (op : BinOp) (a b : Expr) (fs : List Scheme) (w : Walked) →
    expr_found (e.Bin op a b) fs w ≡ expr_found b fs (expr_found a fs (visit w))
bin_is op a b = expr_is (e.Bin op a b) (Expr-F.Bin op a b) (e.rolls-Bin op a b)

pub cmp_is : (op : CmpOp) (a b : Expr) (fs : List Scheme) (w : Walked) →
    expr_found (e.Cmp op a b) fs w ≡ expr_found b fs (expr_found a fs (visit w))
cmp_is op a b = expr_is (e.Cmp op a b) (Expr-F.Cmp op a b) (e.rolls-Cmp op a b)

pub hash_is : (n : ℕ) (es : List Expr) (fs : List Scheme) (w : Walked) →
    expr_found (e.Hash n es) fs w ≡ sequence finds (map expr_found es) fs (visit w)
hash_is n es = expr_is (e.Hash n es) (Expr-F.Hash n es) (e.rolls-Hash n es)

pub call_is : (k : ℕ) (names : List ArrayName) (es : List Expr) (fs : List Scheme) (w : Walked) →
    expr_found (e.Fun k names es) fs w ≡ goes_through k names fs (sequence finds (map expr_found es) fs w)
call_is k names es = expr_is (e.Fun k names es) (Expr-F.Fun k names es) (e.rolls-Fun k names es)

pub inlined_is : (given : List (ℕ × Expr)) (ss : List Stmt) (fs : List Scheme) (w : Walked) →
    expr_found (e.Inlined given ss) fs w ≡ body_found ss fs (given_found given fs (visit w))
inlined_is given ss = expr_is (e.Inlined given ss) (Expr-F.Inlined given ss) (e.rolls-Inlined given ss)

pub assign_is : (i : ℕ) (x : Expr) (fs : List Scheme) (w : Walked) → stmt_found (s.Assign i x) fs w ≡ expr_found x fs (visit w)
assign_is i x = stmt_is (s.Assign i x) (Stmt-F.Assign i x) (s.rolls-Assign i x)

pub drop_is : (x : Expr) (fs : List Scheme) (w : Walked) → stmt_found (s.Drop x) fs w ≡ expr_found x fs (visit w)
drop_is x = stmt_is (s.Drop x) (Stmt-F.Drop x) (s.rolls-Drop x)

pub return_is : (x : Option Expr) (fs : List Scheme) (w : Walked) →
    stmt_found (s.Return x) fs w ≡ optional finds (option_map expr_found x) fs (visit w)
return_is None = stmt_is (s.Return None) (Stmt-F.Return None) (s.rolls-Return None)
return_is (Some x) = stmt_is (s.Return (Some x)) (Stmt-F.Return (Some x)) (s.rolls-Return (Some x))

pub if_is : (x : Expr) (a b : List Stmt) (fs : List Scheme) (w : Walked) →
    stmt_found (s.If x a b) fs w ≡ either (body_found a) (body_found b) fs (expr_found x fs (visit w))
if_is x a b = stmt_is (s.If x a b) (Stmt-F.If x a b) (s.rolls-If x a b)

pub gen_is : (event : ℕ) (es : List Expr) (delay to : Option Expr) (first : Bool) (fs : List Scheme) (w : Walked) →
    stmt_found (s.Gen event es delay to first) fs w ≡ both finds first (optional finds (option_map expr_found delay))
    (optional finds (option_map expr_found to)) fs (sequence finds (map expr_found es) fs (visit w))
gen_is event es delay to first fs w =
    stmt_is (s.Gen event es delay to first) (Stmt-F.Gen event es delay to first) (s.rolls-Gen event es delay to first) fs w ∙ cases delay to
  where
    cases : (delay to : Option Expr) →
        stmt_step finds (map-Stmt Expr Stmt Touch Advance Advance Advance expr_found stmt_found touch_found
        (Stmt-F.Gen event es delay to first)) fs w
        ≡ both finds first (optional finds (option_map expr_found delay)) (optional finds (option_map expr_found to)) fs
        (sequence finds (map expr_found es) fs (visit w))
    cases None None = refl
    cases None (Some t) = refl
    cases (Some d) None = refl
    cases (Some d) (Some t) = refl

pub multi_is : (event : ℕ) (es : List Expr) (delay : Option Expr) (members : List ℕ) (fs : List Scheme) (w : Walked) →
    stmt_found (s.Multi event es delay members) fs w ≡ optional finds (option_map expr_found delay) fs
    (sequence finds (map expr_found es) fs (visit w))
multi_is event es delay members fs w =
    stmt_is (s.Multi event es delay members) (Stmt-F.Multi event es delay members) (s.rolls-Multi event es delay members) fs w ∙ cases delay
  where
    cases : (delay : Option Expr) →
        stmt_step finds (map-Stmt Expr Stmt Touch Advance Advance Advance expr_found stmt_found touch_found
        (Stmt-F.Multi event es delay members)) fs w
        ≡ optional finds (option_map expr_found delay) fs (sequence finds (map expr_found es) fs (visit w))
    cases None = refl
    cases (Some d) = refl

pub say_is : (form : ℕ) (es : List Expr) (fs : List Scheme) (w : Walked) →
    stmt_found (s.Say form es) fs w ≡ sequence finds (map expr_found es) fs (visit w)
say_is form es = stmt_is (s.Say form es) (Stmt-F.Say form es) (s.rolls-Say form es)

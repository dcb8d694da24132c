-- The tally of each form of a body, by its parts in turn.
use Rattle.std.proofs.Common.{◌≡◌, ℕ, ◌+◌, List, [], ◌∷◌, ◌++◌, Bool, true, false, ◌&&◌, Option, None, Some, length, map, nat_le, refl, sym}
use Rattle.std.proofs.Common.{ap, ◌∙◌, arith, option_map, option_to_list, slice_index}
use Rattle.std.proofs.lemmas.List.{length-map}
use Rattle.std.proofs.lemmas.List.Folds.{list_all-append}
use Rattle.lucid_base.specs.declared.array.ArrayName.{ArrayName}
use Rattle.lucid_base.specs.declared.ops.BinOp.{BinOp}
use Rattle.lucid_base.specs.declared.ops.CmpOp.{CmpOp}
use Rattle.lucid_base.specs.declared.ops.UnOp.{UnOp}
use Rattle.lucid_core.specs.declared.body.Expr.{Expr}
use Rattle.lucid_core.specs.declared.body.Stmt.{Stmt}
use Rattle.lucid_core.specs.declared.body.Touch.{Touch, out-Touch}
use Rattle.lucid_core.specs.declared.body.Expr.TheFolds.{fold-roll-Expr, fold-roll-Stmt, fold-roll-Touch, map-Expr, map-Stmt}
use Rattle.lucid_core.specs.declared.body.Expr.TheOpen.{Expr-F, Stmt-F, Touch-F}
use Rattle.lucid_core.specs.declared.body.Expr.TheVariants as e
use Rattle.lucid_core.specs.declared.body.Expr.TheViews.{roll-Expr, roll-Stmt, roll-Touch, roll-out-Touch}
use Rattle.lucid_core.specs.declared.body.Stmt.TheVariants as s
use Rattle.lucid_core.specs.Numbers.{all_hold}
use Rattle.lucid_core.specs.OutCount as o
use Rattle.lucid_core.specs.OutCount.{Count, expr_outs, stmt_outs, total, touch_outs}
use Rattle.lucid_core.specs.Few as f
use Rattle.lucid_core.specs.Few.{expr_few, stmt_few, touch_few}
use Rattle.lucid_types_limits.specs.declared.tally.Tally.{Tally}
use Rattle.lucid_types_limits.specs.Tally.{tally}
use Rattle.lucid_types_limits.proofs.Tallies.{and_true, same, total-append}

abbrev pub expr_tally : List ℕ → Expr → Tally
expr_tally funs x = tally (expr_outs x funs) (expr_few x)

abbrev pub stmt_tally : List ℕ → Stmt → Tally
stmt_tally funs x = tally (stmt_outs x funs) (stmt_few x)

expr_at : (funs : List ℕ) (y : Expr-F Expr Stmt Touch) (x : Expr) → roll-Expr y ≡ x →
    expr_tally funs x
    ≡ tally (o.expr_step (map-Expr Expr Stmt Touch Count Count Count expr_outs stmt_outs touch_outs y) funs)
    (f.expr_step (map-Expr Expr Stmt Touch Bool Bool Bool expr_few stmt_few touch_few y))
expr_at funs y x is =
    ap (expr_tally funs) (sym is)
    ∙ same _ _ _ _ (ap (λ (c : Count). c funs) (fold-roll-Expr Count Count Count o.expr_step o.stmt_step o.touch_step y))
    (fold-roll-Expr Bool Bool Bool f.expr_step f.stmt_step f.touch_step y)

stmt_at : (funs : List ℕ) (y : Stmt-F Expr Stmt Touch) (x : Stmt) → roll-Stmt y ≡ x →
    stmt_tally funs x
    ≡ tally (o.stmt_step (map-Stmt Expr Stmt Touch Count Count Count expr_outs stmt_outs touch_outs y) funs)
    (f.stmt_step (map-Stmt Expr Stmt Touch Bool Bool Bool expr_few stmt_few touch_few y))
stmt_at funs y x is =
    ap (stmt_tally funs) (sym is)
    ∙ same _ _ _ _ (ap (λ (c : Count). c funs) (fold-roll-Stmt Count Count Count o.expr_step o.stmt_step o.touch_step y))
    (fold-roll-Stmt Bool Bool Bool f.expr_step f.stmt_step f.touch_step y)

one : (m : ℕ) (a : Bool) → tally (m + 0) (a && true) ≡ tally m a
one m a = same _ _ _ _ (omega arith) (and_true a)

two : (m n : ℕ) (a b : Bool) → tally (m + (n + 0)) (a && (b && true)) ≡ tally (m + n) (a && b)
two m n a b = same _ _ _ _ (omega arith) (ap (λ (c : Bool). a && c) (and_true b))

-- ---- expressions

pub un_is : (funs : List ℕ) (op : UnOp) (x : Expr) → expr_tally funs (e.Un op x) ≡ expr_tally funs x
un_is funs op x = expr_at funs (Expr-F.Un op x) (e.Un op x) (e.rolls-Un op x) ∙ one _ _

pub cast_is : (funs : List ℕ) (w : ℕ) (x : Expr) → expr_tally funs (e.Cast w x) ≡ expr_tally funs x
cast_is funs w x = expr_at funs (Expr-F.Cast w x) (e.Cast w x) (e.rolls-Cast w x) ∙ one _ _

pub bin_is : (funs : List ℕ) (op : BinOp) (x y : Expr) → expr_tally funs (e.Bin op x y)
    ≡ tally (expr_outs x funs + expr_outs y funs) (expr_few x && expr_few y)
bin_is funs op x y = expr_at funs (Expr-F.Bin op x y) (e.Bin op x y) (e.rolls-Bin op x y) ∙ two _ _ _ _

pub cmp_is : (funs : List ℕ) (op : CmpOp) (x y : Expr) → expr_tally funs (e.Cmp op x y)
    ≡ tally (expr_outs x funs + expr_outs y funs) (expr_few x && expr_few y)
cmp_is funs op x y = expr_at funs (Expr-F.Cmp op x y) (e.Cmp op x y) (e.rolls-Cmp op x y) ∙ two _ _ _ _

touch_at : (funs : List ℕ) (y : Touch-F Expr Stmt Touch) → tally (touch_outs (roll-Touch y) funs + 0) (touch_few (roll-Touch y) && true)
    ≡ tally (expr_outs y.index funs + expr_outs y.get_arg funs + expr_outs y.set_arg funs)
    (expr_few y.index && expr_few y.get_arg && expr_few y.set_arg)
touch_at funs y =
    one _ _
    ∙ same _ _ _ _ (ap (λ (c : Count). c funs) (fold-roll-Touch Count Count Count o.expr_step o.stmt_step o.touch_step y))
    (fold-roll-Touch Bool Bool Bool f.expr_step f.stmt_step f.touch_step y)
    ∙ same _ _ _ _ (omega arith) (turned (expr_few y.index) (expr_few y.get_arg) (expr_few y.set_arg))
  where
    turned : (a b c : Bool) → (a && (b && (c && true))) ≡ ((a && b) && c)
    turned true true c = and_true c
    turned true false c = refl
    turned false b c = refl

pub array_is : (funs : List ℕ) (t : Touch) → expr_tally funs (e.Array t)
    ≡ tally (expr_outs (out-Touch t).index funs + expr_outs (out-Touch t).get_arg funs + expr_outs (out-Touch t).set_arg funs)
    (expr_few (out-Touch t).index && expr_few (out-Touch t).get_arg && expr_few (out-Touch t).set_arg)
array_is funs t =
    expr_at funs (Expr-F.Array t) (e.Array t) (e.rolls-Array t)
    ∙ ap (λ (u : Touch). tally (touch_outs u funs + 0) (touch_few u && true)) (sym (roll-out-Touch t)) ∙ touch_at funs (out-Touch t)

pub call_is : (funs : List ℕ) (k : ℕ) (names : List ArrayName) (xs : List Expr) →
    expr_tally funs (e.Fun k names xs) ≡ tally (total (map expr_outs xs) funs + slice_index funs k) (all_hold (map expr_few xs) && true)
call_is funs k names xs =
    expr_at funs (Expr-F.Fun k names xs) (e.Fun k names xs) (e.rolls-Fun k names xs) ∙ same _ _ _ _ refl (sym (and_true _))

module _ {A : Type 0} (f : Expr → A) where
  abbrev beside : ℕ × Expr → ℕ × A
  beside g = (g.0, f g.1)

  abbrev second : ℕ × A → A
  second g = g.1

  alone : (given : List (ℕ × Expr)) → map second (map beside given) ≡ map (λ (g : ℕ × Expr). f g.1) given
  alone [] = refl
  alone (g ∷ gs) = ap (λ (xs : List A). f g.1 ∷ xs) (alone gs)

pub inlined_is : (funs : List ℕ) (given : List (ℕ × Expr)) (ss : List Stmt) → expr_tally funs (e.Inlined given ss)
    ≡ tally (total (map (λ (g : ℕ × Expr). expr_outs g.1) given) funs + total (map stmt_outs ss) funs)
    (all_hold (map (λ (g : ℕ × Expr). expr_few g.1) given) && all_hold (map stmt_few ss))
inlined_is funs given ss =
    expr_at funs (Expr-F.Inlined given ss) (e.Inlined given ss) (e.rolls-Inlined given ss)
    ∙ same _ _ _ _
    (ap (λ (cs : List Count). total (cs ++ map stmt_outs ss) funs) (alone expr_outs given)
    ∙ total-append (map (λ (g : ℕ × Expr). expr_outs g.1) given) (map stmt_outs ss) funs)
    (ap (λ (bs : List Bool). all_hold (bs ++ map stmt_few ss)) (alone expr_few given)
    ∙ list_all-append (λ b. b) (map (λ (g : ℕ × Expr). expr_few g.1) given) (map stmt_few ss))

-- ---- statements

pub assign_is : (funs : List ℕ) (i : ℕ) (x : Expr) → stmt_tally funs (s.Assign i x) ≡ expr_tally funs x
assign_is funs i x = stmt_at funs (Stmt-F.Assign i x) (s.Assign i x) (s.rolls-Assign i x) ∙ one _ _

pub drop_is : (funs : List ℕ) (x : Expr) → stmt_tally funs (s.Drop x) ≡ expr_tally funs x
drop_is funs x = stmt_at funs (Stmt-F.Drop x) (s.Drop x) (s.rolls-Drop x) ∙ one _ _

abbrev pub left_out_outs : Option Expr → List ℕ → ℕ
left_out_outs d funs = total (option_to_list (option_map expr_outs d)) funs

abbrev pub left_out_few : Option Expr → Bool
left_out_few d = all_hold (option_to_list (option_map expr_few d))

both_few : (xs ys : List Bool) → all_hold (xs ++ ys) ≡ (all_hold xs && all_hold ys)
both_few xs ys = list_all-append (λ b. b) xs ys

pub gen_is : (funs : List ℕ) (event : ℕ) (xs : List Expr) (d t : Option Expr) (first : Bool) → stmt_tally funs (s.Gen event xs d t first)
    ≡ tally (total (map expr_outs xs) funs + left_out_outs d funs + left_out_outs t funs + 1)
    (all_hold (map expr_few xs) && left_out_few d && left_out_few t && true)
gen_is funs event xs d t first =
    stmt_at funs (Stmt-F.Gen event xs d t first) (s.Gen event xs d t first) (s.rolls-Gen event xs d t first) ∙ cases d t
  where
    sum : (bs cs ds : List Count) → total (bs ++ cs ++ ds) funs + 1 ≡ total bs funs + total cs funs + total ds funs + 1
    sum bs cs ds = let p = total-append (bs ++ cs) ds funs in let q = total-append bs cs funs in omega arith

    hold : (bs cs ds : List Bool) → all_hold (bs ++ cs ++ ds) ≡ (all_hold bs && all_hold cs && all_hold ds && true)
    hold bs cs ds = both_few (bs ++ cs) ds ∙ ap (λ (b : Bool). b && all_hold ds) (both_few bs cs) ∙ sym (and_true _)

    cases : (d t : Option Expr) →
        tally (o.stmt_step (map-Stmt Expr Stmt Touch Count Count Count expr_outs stmt_outs touch_outs (Stmt-F.Gen event xs d t first)) funs)
        (f.stmt_step (map-Stmt Expr Stmt Touch Bool Bool Bool expr_few stmt_few touch_few (Stmt-F.Gen event xs d t first)))
        ≡ tally (total (map expr_outs xs) funs + left_out_outs d funs + left_out_outs t funs + 1)
        (all_hold (map expr_few xs) && left_out_few d && left_out_few t && true)
    cases None None = same _ _ _ _ (sum (map expr_outs xs) [] []) (hold (map expr_few xs) [] [])
    cases None (Some y) = same _ _ _ _ (sum (map expr_outs xs) [] (expr_outs y ∷ [])) (hold (map expr_few xs) [] (expr_few y ∷ []))
    cases (Some x) None = same _ _ _ _ (sum (map expr_outs xs) (expr_outs x ∷ []) []) (hold (map expr_few xs) (expr_few x ∷ []) [])
    cases (Some x) (Some y) =
        same _ _ _ _ (sum (map expr_outs xs) (expr_outs x ∷ []) (expr_outs y ∷ []))
        (hold (map expr_few xs) (expr_few x ∷ []) (expr_few y ∷ []))

pub multi_is : (funs : List ℕ) (event : ℕ) (xs : List Expr) (d : Option Expr) (members : List ℕ) →
    stmt_tally funs (s.Multi event xs d members)
    ≡ tally (total (map expr_outs xs) funs + left_out_outs d funs + length members) (all_hold (map expr_few xs) && left_out_few d && true)
multi_is funs event xs d members =
    stmt_at funs (Stmt-F.Multi event xs d members) (s.Multi event xs d members) (s.rolls-Multi event xs d members) ∙ cases d
  where
    hold : (bs cs : List Bool) → all_hold (bs ++ cs) ≡ (all_hold bs && all_hold cs && true)
    hold bs cs = both_few bs cs ∙ sym (and_true _)

    cases : (d : Option Expr) →
        tally (o.stmt_step
        (map-Stmt Expr Stmt Touch Count Count Count expr_outs stmt_outs touch_outs (Stmt-F.Multi event xs d members)) funs)
        (f.stmt_step (map-Stmt Expr Stmt Touch Bool Bool Bool expr_few stmt_few touch_few (Stmt-F.Multi event xs d members)))
        ≡ tally (total (map expr_outs xs) funs + left_out_outs d funs + length members)
        (all_hold (map expr_few xs) && left_out_few d && true)
    cases None = same _ _ _ _ (ap (λ n. n + length members) (total-append (map expr_outs xs) [] funs)) (hold (map expr_few xs) [])
    cases (Some x) =
        same _ _ _ _ (ap (λ n. n + length members) (total-append (map expr_outs xs) (expr_outs x ∷ []) funs))
        (hold (map expr_few xs) (expr_few x ∷ []))

pub say_is : (funs : List ℕ) (form : ℕ) (xs : List Expr) → stmt_tally funs (s.Say form xs)
    ≡ tally (total (map expr_outs xs) funs + 1) (nat_le (length xs) 8 && all_hold (map expr_few xs) && true)
say_is funs form xs =
    stmt_at funs (Stmt-F.Say form xs) (s.Say form xs) (s.rolls-Say form xs)
    ∙ same _ _ _ _ refl (ap (λ n. nat_le n 8 && all_hold (map expr_few xs)) (length-map xs expr_few) ∙ sym (and_true _))

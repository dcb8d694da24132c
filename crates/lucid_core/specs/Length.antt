-- The length of the normal form: how many ops a body becomes. It reads a core, given the lengths of the functions before, and a flat core alike.
use Rattle.std.specs.Prelude.{ℕ, zero, suc, ◌+◌, ◌*◌, List, [], ◌∷◌, ◌++◌, None, Some, Bool, true, false, if◌then◌else◌, ◌&&◌, ◌||◌, length, map, nat_eq, nat_lt, slice_index, fold, option_to_list, sum}
use Rattle.lucid_core.specs.declared.body.Expr.{Expr}
use Rattle.lucid_core.specs.declared.body.Stmt.{Stmt}
use Rattle.lucid_core.specs.declared.body.Touch.{Touch}
use Rattle.lucid_core.specs.declared.body.Expr.TheOpen.{Expr-F, Stmt-F, Touch-F}
use Rattle.lucid_core.specs.declared.body.Expr.TheFolds.{fold-Expr, fold-Stmt, fold-Touch}
use Rattle.lucid_core.specs.declared.defs.FunDef.{FunDef}
use Rattle.lucid_core.specs.declared.defs.HandlerDef.{HandlerDef}
use Rattle.lucid_core.specs.Events.{event_params}
use Rattle.lucid_base.specs.Numbers.{is_in}
use Rattle.lucid_core.specs.Parts.{CoreParts}

-- The lengths of the functions before, how many locals there are, and which of them are from outside: parameters, and those assigned earlier in a block round.
pub record Around : Type 0 where
  pub funs : List ℕ
  pub locals : ℕ
  pub held : ℕ → Bool

-- An expression: how many ops it becomes, and whether a condition that is this one needs a move.
pub record Measure : Type 0 where
  pub ops : Around → ℕ
  pub needs_move : Bool

-- A statement: the number of its ops, the locals that it assigns for the rest of its block, all those that it assigns, and whether it
-- returns on some path, and with a value.
pub record Piece : Type 0 where
  pub ops : Around → ℕ
  pub sets : ℕ → Bool
  pub changes : ℕ → Bool
  pub returns : Bool
  pub value : Bool

-- All of these, one after the other.
abbrev pub total_ops : List Measure → Around → ℕ
total_ops [] a = 0
total_ops (x ∷ xs) a = x.ops a + total_ops xs a

-- Where more locals are assigned round.
abbrev pub with_held : Around → (ℕ → Bool) → Around
with_held a more = record a { held = λ i. a.held i || more i }

-- A block, each statement behind those before it.
abbrev pub block_ops : List Piece → Around → ℕ
block_ops [] a = 0
block_ops (x ∷ xs) a = x.ops a + block_ops xs (with_held a x.sets)

-- Whether any of these assigns the local; whether any returns; whether any returns a value.
abbrev pub any_changes : List Piece → ℕ → Bool
any_changes [] i = false
any_changes (x ∷ xs) i = x.changes i || any_changes xs i

abbrev pub any_returns : List Piece → Bool
any_returns [] = false
any_returns (x ∷ xs) = x.returns || any_returns xs

abbrev pub any_value : List Piece → Bool
any_value [] = false
any_value (x ∷ xs) = x.value || any_value xs

-- How many numbers below n pass.
abbrev pub count_below : ℕ → (ℕ → Bool) → ℕ
count_below zero test = 0
count_below (suc n) test = count_below n test + (if test n then 1 else 0)

abbrev pub measured : Bool → (Around → ℕ) → Measure
measured needs_move ops = record { ops = ops; needs_move = needs_move }

abbrev pub expr_step : Expr-F Measure Piece Measure → Measure
expr_step (Expr-F.Fixed n) = measured true (λ a. 0)
expr_step (Expr-F.Local i) = measured true (λ a. 0)
expr_step Expr-F.Now = measured true (λ a. 0)
expr_step Expr-F.Me = measured true (λ a. 0)
expr_step (Expr-F.Un op x) = measured false (λ a. x.ops a + 1)
expr_step (Expr-F.Bin op x y) = measured false (λ a. x.ops a + y.ops a + 1)
expr_step (Expr-F.Cmp op x y) = measured false (λ a. x.ops a + y.ops a + 1)
expr_step (Expr-F.Cast w x) = measured false (λ a. x.ops a + 1)
expr_step (Expr-F.Hash w xs) = measured false (λ a. total_ops xs a + 1)
expr_step (Expr-F.Array t) = measured false (λ a. t.ops a)
expr_step (Expr-F.Fun k names xs) = measured true (λ a. total_ops xs a + slice_index a.funs k)
expr_step (Expr-F.Inlined given ss) = measured true (λ a. total_ops (map (λ g. g.1) given) a + block_ops ss (with_held a (λ (n : ℕ). is_in n (map (λ g. g.0) given))))

abbrev pub touch_step : Touch-F Measure Piece Measure → Measure
touch_step t = measured false (λ a. t.index.ops a + t.get_arg.ops a + t.set_arg.ops a + 1)

-- The piece of a form that neither assigns nor returns.
abbrev pub plainly : (Around → ℕ) → Piece
plainly ops = record { ops = ops; sets = λ i. false; changes = λ i. false; returns = false; value = false }

-- Two moves for each local that is joined; for the answer where both branches return a value; and none where an if returns otherwise.
abbrev pub joins : List Piece → List Piece → Around → ℕ
joins ss ts a = if any_returns ss || any_returns ts
    then (if any_value ss && any_value ts then 2 else 0)
    else 2 * count_below a.locals (λ i. a.held i && (any_changes ss i || any_changes ts i))

abbrev pub stmt_step : Stmt-F Measure Piece Measure → Piece
stmt_step (Stmt-F.Assign i x) = record { ops = λ a. x.ops a + 1; sets = λ k. nat_eq k i; changes = λ k. nat_eq k i; returns = false; value = false }
stmt_step (Stmt-F.Drop x) = plainly x.ops
stmt_step (Stmt-F.If x ss ts) = record {
  ops = λ a. x.ops a + (if x.needs_move then 1 else 0) + block_ops ss a + block_ops ts a + joins ss ts a;
  sets = λ i. false;
  changes = λ i. any_changes ss i || any_changes ts i;
  returns = any_returns ss || any_returns ts;
  value = any_value ss && any_value ts;
}
stmt_step (Stmt-F.Gen event xs delay to delay_first) = plainly (λ a. total_ops (xs ++ option_to_list delay ++ option_to_list to) a + 1)
stmt_step (Stmt-F.Multi event xs delay members) = plainly (λ a. total_ops (xs ++ option_to_list delay) a + length (xs ++ option_to_list delay) + length members)
stmt_step (Stmt-F.Say form xs) = plainly (λ a. total_ops xs a + 1)
stmt_step (Stmt-F.Return None) = record { ops = λ a. 0; sets = λ i. false; changes = λ i. false; returns = true; value = false }
stmt_step (Stmt-F.Return (Some x)) = record { ops = x.ops; sets = λ i. false; changes = λ i. false; returns = true; value = true }

abbrev pub expr_measure : Expr → Measure
expr_measure = fold-Expr Measure Piece Measure expr_step stmt_step touch_step

abbrev pub stmt_piece : Stmt → Piece
stmt_piece = fold-Stmt Measure Piece Measure expr_step stmt_step touch_step

abbrev pub touch_measure : Touch → Measure
touch_measure = fold-Touch Measure Piece Measure expr_step stmt_step touch_step

-- A body whose first locals are its parameters.
abbrev pub body_length : List ℕ → ℕ → ℕ → List Stmt → ℕ
body_length funs params locals ss = block_ops (map stmt_piece ss) (record { funs = funs; locals = locals; held = λ i. nat_lt i params })

-- The lengths of functions, behind those already counted.
abbrev pub fun_lengths : List ℕ → List FunDef → List ℕ
fun_lengths before fs = fold (λ so_far f. so_far ++ body_length so_far f.params (length f.locals) f.body ∷ []) before fs

-- The length of a handler's normal form, given those of the functions.
abbrev pub handler_length : CoreParts → List ℕ → HandlerDef → ℕ
handler_length parts funs h = body_length funs (length (event_params parts.events h.event)) (length h.locals) h.body

-- The length of a program's normal form. In a flat core there are no functions.
abbrev pub program_length : CoreParts → ℕ
program_length parts = sum (map (handler_length parts (fun_lengths [] parts.funs)) parts.handlers)

-- The findings for the parts of a core: sums stop at the last u64, assigned locals are a list of flags, and a statement names the locals
-- that it assigns. A core has no inlined call, and there nothing is counted. The findings for a core are the length of its normal form
-- and the size of its flat form, both capped: these are the clause of `count_core`, and these definitions only lead to it.
use Rattle.std.specs.Prelude.{ℕ, ◌*◌, List, [], ◌∷◌, ◌++◌, Option, None, Some, Bool, true, false, if◌then◌else◌, ◌&&◌, ◌||◌, fold, is_some, length}
use Rattle.std.specs.Prelude.{slice_index_or, slice_set}
use Rattle.std.specs.List.{flat_map, list_any}
use Rattle.lucid_core.specs.declared.body.Expr.{Expr}
use Rattle.lucid_core.specs.declared.body.Stmt.{Stmt}
use Rattle.lucid_core.specs.declared.body.Touch.{Touch}
use Rattle.lucid_core.specs.declared.body.Expr.TheOpen.{Expr-F, Stmt-F, Touch-F}
use Rattle.lucid_core.specs.declared.body.Expr.TheFolds.{fold-Expr, fold-Stmt, fold-Touch}
use Rattle.lucid_core.specs.Length.{count_below}
use Rattle.lucid_base.specs.Numbers.{is_in}
use Rattle.lucid_inline_count.specs.declared.counts.Counts.{Counts}
use Rattle.lucid_inline_count.specs.declared.body.Part.{Part}
use Rattle.lucid_inline_count.specs.Counts.{capped, counted, counts_at, plus}

-- An expression: its counts, given the functions before, and whether a condition that is this one needs a move.
pub record ExprTally : Type 0 where
  pub counts : List Counts → Counts
  pub needs_move : Bool

-- The counts of the functions before, and the assigned locals.
pub record Round : Type 0 where
  pub funs : List Counts
  pub held : List Bool

-- A statement: its counts, the local that it assigns for the rest of its block, all those that it assigns, and its returns.
pub record Tally : Type 0 where
  pub counts : Round → Counts
  pub sets : Option ℕ
  pub names : List ℕ
  pub returns : Bool
  pub value : Bool

abbrev pub part_of : Tally → Round → Part
part_of t r = record { counts = t.counts r; sets = t.sets; returns = t.returns; value = t.value }

abbrev pub without_returns : Counts → Part
without_returns counts = record { counts = counts; sets = None; returns = false; value = false }

-- All of these.
abbrev pub total : List ExprTally → List Counts → Counts
total xs funs = fold (λ so_far x. plus so_far (x.counts funs)) (counted 0 0) xs

abbrev pub optional : Option ExprTally → List Counts → Counts
optional None funs = counted 0 0
optional (Some x) funs = x.counts funs

abbrev pub held_with : List Bool → Option ℕ → List Bool
held_with held None = held
held_with held (Some i) = slice_set held i true

-- A block in progress: its counts so far, and the assigned locals.
pub record Running : Type 0 where
  pub counts : Counts
  pub held : List Bool

abbrev pub one_more : List Counts → Running → Tally → Running
one_more funs run t = record {
  counts = plus run.counts (t.counts (record { funs = funs; held = run.held }));
  held = held_with run.held t.sets;
}

abbrev pub block_counts : List Tally → Round → Counts
block_counts ts r = (fold (one_more r.funs) (record { counts = counted 0 0; held = r.held }) ts).counts

abbrev pub names_of : List Tally → List ℕ
names_of ts = flat_map (λ t. t.names) ts

abbrev pub any_returns : List Tally → Bool
any_returns ts = list_any (λ t. t.returns) ts

abbrev pub any_value : List Tally → Bool
any_value ts = list_any (λ t. t.value) ts

abbrev pub block_part : List Tally → Round → Part
block_part ts r = record { counts = block_counts ts r; sets = None; returns = any_returns ts; value = any_value ts }

-- How many of the locals that are held are named.
abbrev pub joined : List Bool → List ℕ → ℕ
joined held names = count_below (length held) (λ i. slice_index_or held i false && is_in i names)

-- The moves where two branches join that return, or return a value, and assign these.
abbrev pub joins : Bool → Bool → List Bool → List ℕ → ℕ
joins returns value held names = if returns then (if value then 2 else 0) else capped (2 * joined held names)

abbrev pub found : Bool → (List Counts → Counts) → ExprTally
found needs_move counts = record { counts = counts; needs_move = needs_move }

abbrev pub expr_step : Expr-F ExprTally Tally ExprTally → ExprTally
expr_step (Expr-F.Fixed n) = found true (λ funs. counted 0 0)
expr_step (Expr-F.Local i) = found true (λ funs. counted 0 0)
expr_step Expr-F.Now = found true (λ funs. counted 0 0)
expr_step Expr-F.Me = found true (λ funs. counted 0 0)
expr_step (Expr-F.Un op x) = found false (λ funs. plus (x.counts funs) (counted 1 0))
expr_step (Expr-F.Bin op x y) = found false (λ funs. plus (plus (x.counts funs) (y.counts funs)) (counted 1 0))
expr_step (Expr-F.Cmp op x y) = found false (λ funs. plus (plus (x.counts funs) (y.counts funs)) (counted 1 0))
expr_step (Expr-F.Cast w x) = found false (λ funs. plus (x.counts funs) (counted 1 0))
expr_step (Expr-F.Hash w xs) = found false (λ funs. plus (total xs funs) (counted 1 0))
expr_step (Expr-F.Array t) = found false t.counts
expr_step (Expr-F.Fun k names xs) = found true (λ funs. plus (plus (total xs funs) (counts_at funs k)) (counted 0 1))
expr_step (Expr-F.Inlined given ss) = found true (λ funs. counted 0 0)

abbrev pub touch_step : Touch-F ExprTally Tally ExprTally → ExprTally
touch_step t = found false (λ funs. plus (plus (plus (t.index.counts funs) (t.get_arg.counts funs)) (t.set_arg.counts funs)) (counted 1 0))

-- The tally of a form that neither assigns nor returns.
abbrev pub plainly : (List Counts → Counts) → Tally
plainly counts = record { counts = λ r. counts r.funs; sets = None; names = []; returns = false; value = false }

-- An if without its branches: its condition, with a move where it needs one, and the statement itself.
abbrev pub condition : ExprTally → List Counts → Counts
condition x funs = plus (x.counts funs) (counted (if x.needs_move then 1 else 0) 1)

-- The counts with its branches, and the joins after them.
abbrev pub either : ExprTally → List Tally → List Tally → Round → Counts
either x ss ts r =
    let joined = joins (any_returns ss || any_returns ts) (any_value ss && any_value ts) r.held (names_of ss ++ names_of ts) in
    plus (plus (plus (condition x r.funs) (block_counts ss r)) (block_counts ts r)) (counted joined 0)

-- This many statements of one op each.
abbrev pub ops : ℕ → Counts
ops n = counted n n

-- An event that is sent.
abbrev pub sent : List ExprTally → Option ExprTally → Option ExprTally → List Counts → Counts
sent xs delay to funs = plus (plus (plus (total xs funs) (optional delay funs)) (optional to funs)) (counted 1 1)

-- A group takes an assignment of each argument and of its delay, and an event to each member.
abbrev pub group : List ExprTally → Option ExprTally → List ℕ → List Counts → Counts
group xs delay members funs =
    let calls = plus (total xs funs) (optional delay funs) in
    plus (plus (plus calls (ops (length xs))) (ops (if is_some delay then 1 else 0))) (ops (length members))

abbrev pub stmt_step : Stmt-F ExprTally Tally ExprTally → Tally
stmt_step (Stmt-F.Assign i x) = record {
  counts = λ r. plus (x.counts r.funs) (counted 1 1);
  sets = Some i;
  names = i ∷ [];
  returns = false;
  value = false;
}
stmt_step (Stmt-F.Drop x) = plainly (λ funs. plus (x.counts funs) (counted 0 1))
stmt_step (Stmt-F.If x ss ts) = record {
  counts = either x ss ts;
  sets = None;
  names = names_of ss ++ names_of ts;
  returns = any_returns ss || any_returns ts;
  value = any_value ss && any_value ts;
}
stmt_step (Stmt-F.Gen event xs delay to delay_first) = plainly (sent xs delay to)
stmt_step (Stmt-F.Multi event xs delay members) = plainly (group xs delay members)
stmt_step (Stmt-F.Say form xs) = plainly (λ funs. plus (total xs funs) (counted 1 1))
stmt_step (Stmt-F.Return x) = record {
  counts = λ r. plus (optional x r.funs) (counted 0 1);
  sets = None;
  names = [];
  returns = true;
  value = is_some x;
}

abbrev pub expr_found : Expr → ExprTally
expr_found = fold-Expr ExprTally Tally ExprTally expr_step stmt_step touch_step

abbrev pub stmt_tally : Stmt → Tally
stmt_tally = fold-Stmt ExprTally Tally ExprTally expr_step stmt_step touch_step

abbrev pub touch_found : Touch → ExprTally
touch_found = fold-Touch ExprTally Tally ExprTally expr_step stmt_step touch_step

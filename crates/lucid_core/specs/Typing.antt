-- Widths: those of operands, arguments, assigned locals, answers, memops and cells agree, and a condition has width 1.
use Rattle.std.specs.Prelude.{ℕ, List, [], ◌∷◌, ◌++◌, Option, None, Some, Bool, true, false, if◌then◌else◌, ◌&&◌, nat_eq, slice_get, map, take}
use Rattle.std.specs.List.{list_all}
use Rattle.std.specs.Cmp.Lexicographic.{pointwise}
use Rattle.std.specs.Option.{option_map, option_eq, option_to_list}
use Rattle.lucid_base.specs.declared.array.ArrayName.{ArrayName}
use Rattle.lucid_base.specs.declared.array.ArrayName.TheVariants.{Global, Param}
use Rattle.lucid_core.specs.declared.body.Expr.{Expr}
use Rattle.lucid_core.specs.declared.body.Stmt.{Stmt}
use Rattle.lucid_core.specs.declared.body.Touch.{Touch}
use Rattle.lucid_core.specs.declared.body.Expr.TheOpen.{Expr-F, Stmt-F, Touch-F}
use Rattle.lucid_core.specs.declared.body.Expr.TheFolds.{fold-Expr, fold-Stmt, fold-Touch}
use Rattle.lucid_core.specs.declared.defs.FunDef.{FunDef}
use Rattle.lucid_core.specs.Parts.{CoreParts}
use Rattle.lucid_core.specs.Scope.{Scope, fun_scope, handler_scope, funs_pass}

-- The answer of a call or an expression: the width of its value, or None if it has no value.
abbrev pub Answer : Type 0
Answer = Option ℕ

-- The type of a part in a scope; None if its widths don't agree.
abbrev pub Typed : Type 0 → Type 0
Typed A = Scope → Option A

infixl 10 ◌>>=◌
abbrev pub ◌>>=◌ : {A B : Type 0} → Option A → (A → Option B) → Option B
None >>= f = None
Some x >>= f = f x

-- x where the test holds
abbrev pub given_that : {A : Type 0} → Bool → A → Option A
given_that true x = Some x
given_that false x = None

-- Two lists of numbers are the same.
abbrev pub same : List ℕ → List ℕ → Bool
same = pointwise nat_eq

-- The width of a value, where there is one.
abbrev pub value : Typed Answer → Typed ℕ
value x s = x s >>= (λ answer. answer)

-- The types of these, in order.
abbrev pub all_typed : {A : Type 0} → List (Typed A) → Typed (List A)
all_typed [] s = Some []
all_typed (x ∷ xs) s = do
  a ← x s
  as_ ← all_typed xs s
  Some (a ∷ as_)

abbrev pub values : List (Typed Answer) → Typed (List ℕ)
values xs = all_typed (map value xs)

-- The cell width of an array.
abbrev pub cell_width : ArrayName → Typed ℕ
cell_width (Global a) s = slice_get s.arrays a
cell_width (Param i) s = slice_get s.params i

abbrev pub local_width : ℕ → Typed ℕ
local_width i s = slice_get s.locals i

-- The returns of a block's statements, one after the other.
abbrev pub joined : List (List Answer) → List Answer
joined [] = []
joined (xs ∷ rest) = xs ++ joined rest

-- The one answer of all these returns; no value where there is no return.
abbrev pub one_answer : List Answer → Option Answer
one_answer [] = Some None
one_answer (a ∷ rest) = given_that (list_all (option_eq nat_eq a) rest) a

-- A call of a function is given arrays and values of the widths of its parameters.
abbrev pub call_answer : FunDef → List ℕ → List ℕ → Option Answer
call_answer f cells args = given_that (same cells f.arrays && same args (take f.params f.locals)) f.answer

abbrev pub expr_step : Expr-F (Typed Answer) (Typed (List Answer)) (Typed Answer) → Typed Answer
expr_step (Expr-F.Fixed n) s = Some (Some n.width)
expr_step (Expr-F.Local i) s = option_map (λ w. Some w) (local_width i s)
expr_step Expr-F.Now s = Some (Some 32)
expr_step Expr-F.Me s = Some (Some 32)
expr_step (Expr-F.Un op x) s = option_map (λ w. Some w) (value x s)
expr_step (Expr-F.Bin op x y) s = do
  w ← value x s
  v ← value y s
  given_that (nat_eq w v) (Some w)
expr_step (Expr-F.Cmp op x y) s = do
  w ← value x s
  v ← value y s
  given_that (nat_eq w v) (Some 1)
expr_step (Expr-F.Cast w x) s = do
  v ← value x s
  Some (Some w)
expr_step (Expr-F.Hash w xs) s = do
  ws ← values xs s
  Some (Some w)
expr_step (Expr-F.Array t) s = t s
expr_step (Expr-F.Fun k names xs) s = do
  f ← slice_get s.funs k
  cells ← all_typed (map cell_width names) s
  args ← values xs s
  call_answer f cells args
expr_step (Expr-F.Inlined given ss) s = do
  args ← values (map (λ g. g.1) given) s
  held ← all_typed (map (λ g. local_width g.0) given) s
  returns ← all_typed ss s
  answer ← one_answer (joined returns)
  given_that (same args held) answer

-- Memops, their arguments and the cells have one width, which is that of the value where the call gives one.
abbrev pub touch_step : Touch-F (Typed Answer) (Typed (List Answer)) (Typed Answer) → Typed Answer
touch_step t s = do
  w ← cell_width t.array s
  i ← value t.index s
  g ← value t.get_arg s
  v ← value t.set_arg s
  given_that (list_all (nat_eq w) (t.get.width ∷ t.set.width ∷ g ∷ v ∷ [])) (if t.answers then Some w else None)

-- An event is given values of the widths of its parameters.
abbrev pub event_is_given : ℕ → List (Typed Answer) → Typed (List Answer)
event_is_given event xs s = do
  params ← slice_get s.events event
  args ← values xs s
  given_that (same args params) []

abbrev pub stmt_step : Stmt-F (Typed Answer) (Typed (List Answer)) (Typed Answer) → Typed (List Answer)
stmt_step (Stmt-F.Assign i x) s = do
  w ← value x s
  held ← local_width i s
  given_that (nat_eq w held) []
stmt_step (Stmt-F.Drop x) s = do
  answer ← x s
  Some []
stmt_step (Stmt-F.If x ss ts) s = do
  w ← value x s
  first ← all_typed ss s
  second ← all_typed ts s
  given_that (nat_eq w 1) (joined first ++ joined second)
stmt_step (Stmt-F.Gen event xs delay to delay_first) s = do
  given ← event_is_given event xs s
  ws ← values (option_to_list delay ++ option_to_list to) s
  Some []
stmt_step (Stmt-F.Multi event xs delay members) s = do
  given ← event_is_given event xs s
  ws ← values (option_to_list delay) s
  Some []
stmt_step (Stmt-F.Say form xs) s = do
  ws ← values xs s
  Some []
stmt_step (Stmt-F.Return None) s = Some (None ∷ [])
stmt_step (Stmt-F.Return (Some x)) s = do
  w ← value x s
  Some (Some w ∷ [])

-- The answer of an expression.
abbrev pub answer_of : Expr → Typed Answer
answer_of = fold-Expr (Typed Answer) (Typed (List Answer)) (Typed Answer) expr_step stmt_step touch_step

-- The answers of the returns in a statement; those in an `Inlined` are its own.
abbrev pub returns_of : Stmt → Typed (List Answer)
returns_of = fold-Stmt (Typed Answer) (Typed (List Answer)) (Typed Answer) expr_step stmt_step touch_step

abbrev pub touch_answer : Touch → Typed Answer
touch_answer = fold-Touch (Typed Answer) (Typed (List Answer)) (Typed Answer) expr_step stmt_step touch_step

-- A body's widths agree, and each return in it gives this.
abbrev pub gives_only : Answer → Option (List (List Answer)) → Bool
gives_only answer None = false
gives_only answer (Some returns) = list_all (option_eq nat_eq answer) (joined returns)

abbrev pub body_gives_only : Answer → List Stmt → Scope → Bool
body_gives_only answer ss s = gives_only answer (all_typed (map returns_of ss) s)

-- In all bodies. A function gives values of its answer's width, or none; a handler gives none.
abbrev pub widths_agree : CoreParts → Bool
widths_agree parts =
    funs_pass (λ before f. body_gives_only f.answer f.body (fun_scope parts before f)) [] parts.funs
    && list_all (λ h. body_gives_only None h.body (handler_scope parts h)) parts.handlers

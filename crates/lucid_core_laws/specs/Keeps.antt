-- The rules of a valid program for a part of a body, at its place.
use Rattle.std.specs.Prelude.{◌≡◌, ℕ, List, [], ◌∷◌, Option, None, Some, Bool, true, false, map, nat_eq}
use Rattle.std.specs.List.{list_all}
use Rattle.std.specs.Option.{option_eq}
use Rattle.lucid_core.specs.declared.body.Expr.{Expr}
use Rattle.lucid_core.specs.declared.body.Stmt.{Stmt}
use Rattle.lucid_core.specs.declared.body.Touch.{Touch}
use Rattle.lucid_core.specs.Assigned.{Flow, block_reads_assigned, expr_flow, stmt_flow, touch_flow}
use Rattle.lucid_core.specs.Limits.{expr_limits, stmt_limits, touch_limits}
use Rattle.lucid_core.specs.Names.{expr_names, stmt_names, touch_names}
use Rattle.lucid_core.specs.Numbers.{all_hold}
use Rattle.lucid_core.specs.Returns.{Returns, block_returns, is_end, expr_returns, stmt_returns, touch_returns}
use Rattle.lucid_core.specs.Scope.{Test, each}
use Rattle.lucid_core.specs.Texts.{Printed, each_filled, expr_texts, stmt_texts, touch_texts}
use Rattle.lucid_core.specs.Typing.{Answer, Typed, all_typed, answer_of, joined, returns_of, touch_answer}
use Rattle.lucid_core.specs.declared.ending.Ending.{Ending}
use Rattle.lucid_core_laws.specs.Allowed.{expr_allowed, stmt_allowed, touch_allowed}
use Rattle.lucid_core.specs.Endings.{on_some_path, on_every_path}
use Rattle.lucid_core.specs.Few.{expr_few, stmt_few, touch_few}
use Rattle.lucid_core_laws.specs.Place.{Place}

-- The result of each rule for an expression or a call of an array with this answer.
pub record Keeps (p : Place) (a : Answer) (names : Test) (answer : Typed Answer) (returns : Returns) (flow : Flow) (few limits : Bool) (texts : Printed) (allowed : Bool) : Type 0 where
  pub named : names p.scope ≡ true
  pub typed : answer p.scope ≡ Some a
  pub last : returns.last ≡ true
  pub reads : flow.reads_assigned p.known ≡ true
  pub limited : few ≡ true → limits ≡ true
  pub filled : texts p.scope.forms ≡ true
  pub formed : allowed ≡ true

abbrev pub KeepsExpr : Place → Answer → Expr → Type 0
KeepsExpr p a c = Keeps p a (expr_names c) (answer_of c) (expr_returns c) (expr_flow c) (expr_few c) (expr_limits c) (expr_texts c) (expr_allowed p.flat c)

abbrev pub KeepsTouch : Place → Answer → Touch → Type 0
KeepsTouch p a t = Keeps p a (touch_names t) (touch_answer t) (touch_returns t) (touch_flow t) (touch_few t) (touch_limits t) (touch_texts t) (touch_allowed p.flat t)

-- Expressions that give values of these widths.
abbrev pub KeepsAll : Place → List ℕ → List Expr → Type 0
KeepsAll p [] [] = Unit {0}
KeepsAll p (w ∷ ws) (c ∷ cs) = KeepsExpr p (Some w) c × KeepsAll p ws cs
KeepsAll p _ _ = ⊥

-- An operand that may be left out.
abbrev pub MayKeep : Place → Option Expr → Type 0
MayKeep p None = Unit {0}
MayKeep p (Some c) = (w : ℕ) × KeepsExpr p (Some w) c

-- The result of each rule for a statement whose returns have this answer, which returns on these paths and assigns these locals for the
-- rest.
pub record KeepsRules (p : Place) (a : Answer) (r : Ending) (k : List ℕ) (names : Test) (answers : Typed (List Answer)) (returns : Returns) (flow : Flow) (few limits : Bool) (texts : Printed) (allowed : Bool) : Type 0 where
  pub named : names p.scope ≡ true
  pub given : List Answer
  pub typed : answers p.scope ≡ Some given
  pub only : list_all (option_eq nat_eq a) given ≡ true
  pub seen : on_every_path r ≡ true → is_end given ≡ false
  pub last : returns.last ≡ true
  pub some : returns.some ≡ on_some_path r
  pub always : returns.always ≡ on_every_path r
  pub value : a ≡ None → returns.value ≡ false
  pub reads : flow.reads_assigned p.known ≡ true
  pub assigns : flow.assigns ≡ k
  pub limited : few ≡ true → limits ≡ true
  pub filled : texts p.scope.forms ≡ true
  pub formed : allowed ≡ true

abbrev pub KeepsStmt : Place → Answer → Ending → List ℕ → Stmt → Type 0
KeepsStmt p a r k x = KeepsRules p a r k (stmt_names x) (returns_of x) (stmt_returns x) (stmt_flow x) (stmt_few x) (stmt_limits x) (stmt_texts x) (stmt_allowed p.flat x)

-- A block's statements, whose returns give this, and which returns on these paths.
pub record KeepsBlock (p : Place) (a : Answer) (r : Ending) (xs : List Stmt) : Type 0 where
  pub named : each (map stmt_names xs) p.scope ≡ true
  pub given : List (List Answer)
  pub typed : all_typed (map returns_of xs) p.scope ≡ Some given
  pub only : list_all (option_eq nat_eq a) (joined given) ≡ true
  pub seen : on_every_path r ≡ true → is_end (joined given) ≡ false
  pub last : (block_returns (map stmt_returns xs)).last ≡ true
  pub some : (block_returns (map stmt_returns xs)).some ≡ on_some_path r
  pub always : (block_returns (map stmt_returns xs)).always ≡ on_every_path r
  pub value : a ≡ None → (block_returns (map stmt_returns xs)).value ≡ false
  pub reads : block_reads_assigned (map stmt_flow xs) p.known ≡ true
  pub limited : all_hold (map stmt_few xs) ≡ true → all_hold (map stmt_limits xs) ≡ true
  pub filled : each_filled (map stmt_texts xs) p.scope.forms ≡ true
  pub formed : all_hold (map (stmt_allowed p.flat) xs) ≡ true

-- Definite assignment: a local that is no parameter is read only after an assignment of it earlier in the same block or in an enclosing
-- block.
use Rattle.std.specs.Prelude.{ℕ, List, [], ◌∷◌, ◌++◌, Bool, true, ◌&&◌, map, take}
use Rattle.std.specs.List.{list_all}
use Rattle.lucid_core.specs.declared.body.Expr.{Expr}
use Rattle.lucid_core.specs.declared.body.Stmt.{Stmt}
use Rattle.lucid_core.specs.declared.body.Touch.{Touch}
use Rattle.lucid_core.specs.declared.body.Expr.TheOpen.{Expr-F, Stmt-F, Touch-F}
use Rattle.lucid_core.specs.declared.body.Expr.TheFolds.{fold-Expr, fold-Stmt, fold-Touch}
use Rattle.lucid_core.specs.Children.{expr_children, stmt_children, touch_children}
use Rattle.lucid_core.specs.Parts.{CoreParts}
use Rattle.lucid_base.specs.Numbers.{is_in}
use Rattle.lucid_core.specs.Numbers.{places}
use Rattle.lucid_core.specs.Events.{event_params}

-- For a part of a body: whether it reads only assigned locals, given those assigned before it, and the locals that it assigns for the
-- rest of its block.
pub record Flow : Type 0 where
  pub reads_assigned : List ℕ → Bool
  pub assigns : List ℕ

abbrev pub all_read_assigned : List Flow → List ℕ → Bool
all_read_assigned parts known = list_all (λ f. f.reads_assigned known) parts

-- A block's statements, each behind those before it.
abbrev pub block_reads_assigned : List Flow → List ℕ → Bool
block_reads_assigned [] known = true
block_reads_assigned (f ∷ fs) known = f.reads_assigned known && block_reads_assigned fs (known ++ f.assigns)

abbrev pub only_reads : (List ℕ → Bool) → Flow
only_reads test = record { reads_assigned = test; assigns = [] }

-- The pairs of an `Inlined` count as an assignment each at the head of its statements.
abbrev pub expr_step : Expr-F Flow Flow Flow → Flow
expr_step (Expr-F.Local i) = only_reads (λ known. is_in i known)
expr_step (Expr-F.Inlined given ss) = only_reads (λ known. all_read_assigned (map (λ g. g.1) given) known && block_reads_assigned ss (known ++ map (λ g. g.0) given))
expr_step e = only_reads (all_read_assigned (expr_children e))

abbrev pub touch_step : Touch-F Flow Flow Flow → Flow
touch_step t = only_reads (all_read_assigned (touch_children t))

abbrev pub stmt_step : Stmt-F Flow Flow Flow → Flow
stmt_step (Stmt-F.Assign i x) = record { reads_assigned = x.reads_assigned; assigns = i ∷ [] }
stmt_step (Stmt-F.If x ss ts) = only_reads (λ known. x.reads_assigned known && block_reads_assigned ss known && block_reads_assigned ts known)
stmt_step s = only_reads (all_read_assigned (stmt_children s))

abbrev pub expr_flow : Expr → Flow
expr_flow = fold-Expr Flow Flow Flow expr_step stmt_step touch_step

abbrev pub stmt_flow : Stmt → Flow
stmt_flow = fold-Stmt Flow Flow Flow expr_step stmt_step touch_step

abbrev pub touch_flow : Touch → Flow
touch_flow = fold-Touch Flow Flow Flow expr_step stmt_step touch_step

-- A body whose first locals are its parameters.
abbrev pub body_reads_assigned : List ℕ → List Stmt → Bool
body_reads_assigned params ss = block_reads_assigned (map stmt_flow ss) (places params)

abbrev pub reads_follow_assignments : CoreParts → Bool
reads_follow_assignments parts =
    list_all (λ f. body_reads_assigned (take f.params f.locals) f.body) parts.funs
    && list_all (λ h. body_reads_assigned (event_params parts.events h.event) h.body) parts.handlers

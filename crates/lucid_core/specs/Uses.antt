-- The locals that a body reads and assigns, and the names that an `Inlined` may use.
use Rattle.std.specs.Prelude.{ℕ, List, [], ◌∷◌, ◌++◌, Bool, ◌&&◌, map, nat_eq, nat_le, drop, length}
use Rattle.std.specs.List.{list_all, flat_map, count_by}
use Rattle.lucid_core.specs.declared.body.Expr.{Expr}
use Rattle.lucid_core.specs.declared.body.Stmt.{Stmt}
use Rattle.lucid_core.specs.declared.body.Touch.{Touch}
use Rattle.lucid_core.specs.declared.body.Expr.TheOpen.{Expr-F, Stmt-F, Touch-F}
use Rattle.lucid_core.specs.declared.body.Expr.TheFolds.{fold-Expr, fold-Stmt, fold-Touch}
use Rattle.lucid_core.specs.Children.{expr_children, stmt_children, touch_children}
use Rattle.lucid_core.specs.Parts.{CoreParts}
use Rattle.lucid_core.specs.Events.{event_params}
use Rattle.lucid_core.specs.Numbers.{are_in, places}

-- An `Inlined`: the locals that it assigns, its parameters among them, those that its statements read, and all of these, each as often as
-- it occurs. Its arguments are outside it.
pub record Inlining : Type 0 where
  pub assigns : List ℕ
  pub reads : List ℕ
  pub names : List ℕ

-- Of a part of a body: the locals that it reads and those that it assigns, as often as it does, and each `Inlined` in it.
pub record Uses : Type 0 where
  pub reads : List ℕ
  pub assigns : List ℕ
  pub inlined : List Inlining

abbrev pub all_uses : List Uses → Uses
all_uses parts = record {
  reads = flat_map (λ u. u.reads) parts;
  assigns = flat_map (λ u. u.assigns) parts;
  inlined = flat_map (λ u. u.inlined) parts;
}

-- The locals that are named, as often as they are.
abbrev pub named : Uses → List ℕ
named u = u.reads ++ u.assigns

abbrev pub assigning : List ℕ → Uses → Uses
assigning locals u = record u { assigns = locals ++ u.assigns }

-- An `Inlined` of these arguments and of this body, which assigns its parameters too.
abbrev pub inlining : Uses → Uses → Uses
inlining args body = record {
  reads = args.reads ++ body.reads;
  assigns = args.assigns ++ body.assigns;
  inlined = record { assigns = body.assigns; reads = body.reads; names = named body } ∷ (args.inlined ++ body.inlined);
}

abbrev pub expr_step : Expr-F Uses Uses Uses → Uses
expr_step (Expr-F.Local i) = record { reads = i ∷ []; assigns = []; inlined = [] }
expr_step (Expr-F.Inlined given ss) = inlining (all_uses (map (λ g. g.1) given)) (assigning (map (λ g. g.0) given) (all_uses ss))
expr_step e = all_uses (expr_children e)

abbrev pub touch_step : Touch-F Uses Uses Uses → Uses
touch_step t = all_uses (touch_children t)

abbrev pub stmt_step : Stmt-F Uses Uses Uses → Uses
stmt_step (Stmt-F.Assign i x) = assigning (i ∷ []) x
stmt_step s = all_uses (stmt_children s)

abbrev pub expr_uses : Expr → Uses
expr_uses = fold-Expr Uses Uses Uses expr_step stmt_step touch_step

abbrev pub stmt_uses : Stmt → Uses
stmt_uses = fold-Stmt Uses Uses Uses expr_step stmt_step touch_step

abbrev pub touch_uses : Touch → Uses
touch_uses = fold-Touch Uses Uses Uses expr_step stmt_step touch_step

abbrev pub body_uses : List Stmt → Uses
body_uses ss = all_uses (map stmt_uses ss)

-- Each local past the first `params` is assigned by some statement of the body.
abbrev pub assigns_its_locals : ℕ → List ℕ → List Stmt → Bool
assigns_its_locals params locals ss = are_in (body_uses ss).assigns (drop params (places locals))

abbrev pub locals_are_assigned : CoreParts → Bool
locals_are_assigned parts =
    list_all (λ f. assigns_its_locals f.params f.locals f.body) parts.funs
    && list_all (λ h. assigns_its_locals (length (event_params parts.events h.event)) h.locals h.body) parts.handlers

abbrev pub times_in : List ℕ → ℕ → ℕ
times_in xs n = count_by (nat_eq n) xs

-- The locals that an `Inlined` assigns are no parameters of the handler, which has this many, and are named nowhere outside it; its
-- statements read no others.
abbrev pub keeps_to_itself : ℕ → List ℕ → Inlining → Bool
keeps_to_itself params body i = list_all (λ n. nat_le params n && nat_eq (times_in body n) (times_in i.names n)) i.assigns && are_in i.assigns i.reads

abbrev pub all_keep_to_themselves : ℕ → Uses → Bool
all_keep_to_themselves params body = list_all (keeps_to_itself params (named body)) body.inlined

abbrev pub inlined_keep_to_themselves : CoreParts → Bool
inlined_keep_to_themselves parts = list_all (λ h. all_keep_to_themselves (length (event_params parts.events h.event)) (body_uses h.body)) parts.handlers

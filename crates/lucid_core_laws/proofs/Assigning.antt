-- The locals that a block assigns, by its parts.
use Rattle.std.proofs.Common.{◌≡◌, ℕ, List, [], ◌∷◌, ◌++◌, true, map, sym, ap, subst, ◌∙◌}
use Rattle.std.proofs.lemmas.List.Concat.{flat_map-append}
use Rattle.lucid_base.proofs.NumbersLemmas.{in_first, in_second, itself_in}
use Rattle.lucid_core.specs.declared.body.Expr.{Expr}
use Rattle.lucid_core.specs.declared.body.Stmt.{Stmt}
use Rattle.lucid_core.specs.declared.body.Expr.TheOpen.{Stmt-F}
use Rattle.lucid_core.specs.declared.body.Expr.TheViews.{roll-Stmt}
use Rattle.lucid_core.specs.declared.body.Expr.TheFolds.{fold-roll-Stmt}
use Rattle.lucid_base.specs.Numbers.{is_in}
use Rattle.lucid_core.specs.Uses.{Uses, body_uses, expr_uses, expr_step, stmt_step, stmt_uses, touch_step}
use Rattle.lucid_core_laws.specs.AssigningNodes.{Assigns, AssigningNodes}

-- Of the first statement.
at_first : (i : ℕ) (x : Stmt) (xs : List Stmt) → is_in i (stmt_uses x).assigns ≡ true → Assigns i (x ∷ xs)
at_first i x xs h = in_first (stmt_uses x).assigns (body_uses xs).assigns i h

assigned : (i : ℕ) (c : Expr) → (stmt_uses (roll-Stmt (Stmt-F.Assign i c))).assigns ≡ (i ∷ []) ++ (expr_uses c).assigns
assigned i c = ap (λ (u : Uses). u.assigns) (fold-roll-Stmt Uses Uses Uses expr_step stmt_step touch_step (Stmt-F.Assign i c))

of_branches : (c : Expr) (ss ts : List Stmt) → (stmt_uses (roll-Stmt (Stmt-F.If c ss ts))).assigns ≡ (expr_uses c).assigns ++ ((body_uses ss).assigns ++ (body_uses ts).assigns)
of_branches c ss ts = ap (λ (u : Uses). u.assigns) (fold-roll-Stmt Uses Uses Uses expr_step stmt_step touch_step (Stmt-F.If c ss ts))
    ∙ ap (λ (ns : List ℕ). (expr_uses c).assigns ++ ns) (flat_map-append (λ (u : Uses). u.assigns) (map stmt_uses ss) (map stmt_uses ts))

pub assigning_nodes : AssigningNodes
assigning_nodes = record {
  assign = λ i c xs. at_first i (roll-Stmt (Stmt-F.Assign i c)) xs (subst (λ (ns : List ℕ). is_in i ns ≡ true) (sym (assigned i c)) (in_first (i ∷ []) (expr_uses c).assigns i (itself_in i)));
  later = λ i x xs h. in_second (stmt_uses x).assigns (body_uses xs).assigns i h;
  first_branch = λ i c ss ts xs h. at_first i (roll-Stmt (Stmt-F.If c ss ts)) xs (subst (λ (ns : List ℕ). is_in i ns ≡ true) (sym (of_branches c ss ts))
      (in_second (expr_uses c).assigns _ i (in_first (body_uses ss).assigns (body_uses ts).assigns i h)));
  second_branch = λ i c ss ts xs h. at_first i (roll-Stmt (Stmt-F.If c ss ts)) xs (subst (λ (ns : List ℕ). is_in i ns ≡ true) (sym (of_branches c ss ts))
      (in_second (expr_uses c).assigns _ i (in_second (body_uses ss).assigns (body_uses ts).assigns i h)));
}

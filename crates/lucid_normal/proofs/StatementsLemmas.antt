-- Statements: what remains after the first part gives the translation of the whole.
use Rattle.std.proofs.Common.{◌≡◌, ◌∙◌, ℕ, List, [], ◌∷◌, Bool, Option, None, Some, ap, ap₂, length, refl, sym}
use denote.Bor.{Bor}
use Rattle.std.specs.Prelude.{⊤}
use Rattle.lucid_core.specs.declared.body.Expr.{Expr}
use Rattle.lucid_core.specs.declared.body.Stmt.{Stmt}
use Rattle.lucid_core.specs.declared.body.Expr.TheOpen.{Stmt-F}
use Rattle.lucid_core.specs.declared.body.Expr.TheViews.{roll-Stmt}
use Rattle.lucid_normal.specs.Bodies.{Walk, after_task, chosen, ended, expressed, finished}
use Rattle.lucid_normal.specs.declared.task.End.TheVariants as end_of
use Rattle.lucid_normal.specs.declared.task.Task.TheVariants as task_of
use Rattle.lucid_normal_spec.specs.Translate.{◌>>=◌, assign, bit_field, body_code, branch, expr_code, return_made, return_none, stmt_code, valued}
use Rattle.lucid_normal.proofs.BodiesLemmas.{bind, idle, of_stmt, opened_stmt, regroup, then_done, valued_bind}

abbrev nothing : {A : Type 0} → A → ⊤
nothing x = tt

-- ---- blocks

pub block_none : (s : Walk) → record s { value = None } ≡ finished (body_code []) s
unfolding ended
block_none s = idle (λ _. None) (body_code []) s None refl refl refl

pub block_last : (t : Stmt) (s : Walk) → finished (stmt_code t) s ≡ finished (body_code (t ∷ [])) s
unfolding ended
block_last t s = then_done (λ _. None) (stmt_code t) nothing s

pub block_next : (t : Stmt) (rest : List Stmt) (s : Walk) →
    finished (body_code rest) (finished (stmt_code t) s) ≡ finished (body_code (t ∷ rest)) s
unfolding ended
block_next t rest s = bind (λ _. None) None (stmt_code t) (λ _. body_code rest) s

pub block_end : (ss : List Stmt) (s : Walk) → length ss ≡ 0 → record s { value = None } ≡ finished (body_code ss) s
block_end [] s none = block_none s
block_end (t ∷ ss) s none = absurd (cc)

pub block_one : (ss : List Stmt) (t : Stmt) (rest : List Stmt) (s : Walk) → ss ≡ t ∷ rest → length rest ≡ 0 →
    finished (stmt_code t) s ≡ finished (body_code ss) s
block_one ss t [] s is none = block_last t s ∙ ap (λ (us : List Stmt). finished (body_code us) s) (sym is)
block_one ss t (u ∷ us) s is none = absurd (cc)

pub block_more : (ss : List Stmt) (t : Stmt) (rest : List Stmt) (s : Walk) → ss ≡ t ∷ rest →
    finished (body_code rest) (finished (stmt_code t) s) ≡ finished (body_code ss) s
block_more ss t rest s is = block_next t rest s ∙ ap (λ (us : List Stmt). finished (body_code us) s) (sym is)

-- ---- forms

pub assigned : {t : Stmt} (i : ℕ) (e : Expr) → roll-Stmt (Stmt-F.Assign i e) ≡ t → (s : Walk) →
    after_task (task_of.Last (end_of.Assign i)) (expressed (expr_code e).made s) ≡ finished (stmt_code t) s
unfolding ended
assigned i e at s = valued_bind (λ _. None) (expr_code e).made (assign i) s ∙ of_stmt (Stmt-F.Assign i e) at s

pub dropped : {t : Stmt} (e : Expr) → roll-Stmt (Stmt-F.Drop e) ≡ t → (s : Walk) →
    after_task (task_of.Last end_of.Drop) (expressed (expr_code e).made s) ≡ finished (stmt_code t) s
unfolding ended
dropped e at s = then_done (λ _. None) (expr_code e).made nothing s ∙ of_stmt (Stmt-F.Drop e) at s

pub tested : {t : Stmt} (e : Expr) (ss ts : List Stmt) → roll-Stmt (Stmt-F.If e ss ts) ≡ t → (flag : Bool) →
    flag ≡ (expr_code e).needs_move → (yes_at no_at : Bor (List Stmt)) → yes_at.now ≡ ss → no_at.now ≡ ts → (s : Walk) →
    after_task (task_of.Choose flag yes_at no_at) (expressed (expr_code e).made s) ≡ finished (stmt_code t) s
unfolding ended chosen
tested e ss ts at flag is yes_at no_at yes_is no_is s =
    let x = expr_code e in
    let next = branch (body_code ss) (body_code ts) in
    ap₂ (λ (us vs : List Stmt). chosen flag us vs (expressed x.made s)) yes_is no_is
    ∙ ap (λ (b : Bool). chosen b ss ts (expressed x.made s)) is
    ∙ valued_bind (λ _. None) x.made (λ t. bit_field x.needs_move t.operand t >>= next) s
    ∙ regroup (λ _. None) (valued x.made) (λ t. bit_field x.needs_move t.operand t) next s
    ∙ of_stmt (Stmt-F.If e ss ts) at s

pub returned : {t : Stmt} (e : Expr) → roll-Stmt (Stmt-F.Return (Some e)) ≡ t → (s : Walk) →
    after_task (task_of.Last end_of.Answer) (expressed (expr_code e).made s) ≡ finished (stmt_code t) s
unfolding ended
returned e at s = valued_bind (λ _. None) (expr_code e).made return_made s ∙ of_stmt (Stmt-F.Return (Some e)) at s

pub returned_none : {t : Stmt} → roll-Stmt (Stmt-F.Return None) ≡ t → (s : Walk) → finished return_none s ≡ finished (stmt_code t) s
returned_none at s = of_stmt (Stmt-F.Return None) at s

pub absent : {t : Stmt} (event : ℕ) (xs : List Expr) (d : Option Expr) (members : List ℕ) →
    roll-Stmt (Stmt-F.Multi event xs d members) ≡ t → (s : Walk) → record s { value = None } ≡ finished (stmt_code t) s
absent event xs None members at s =
    idle (λ _. None) (opened_stmt (Stmt-F.Multi event xs None members)) s None refl refl refl ∙ of_stmt (Stmt-F.Multi event xs None members) at s
absent event xs (Some d) members at s =
    idle (λ _. None) (opened_stmt (Stmt-F.Multi event xs (Some d) members)) s None refl refl refl
    ∙ of_stmt (Stmt-F.Multi event xs (Some d) members) at s

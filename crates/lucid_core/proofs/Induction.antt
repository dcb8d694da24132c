-- Induction over expressions, statements and touches, and over bodies. And equations of folds, used one after another.
use Rattle.std.proofs.Common.{◌≡◌, List, [], ◌∷◌, map, refl, sym, ap, subst}
use Rattle.lucid_core.specs.declared.body.Expr.{Expr}
use Rattle.lucid_core.specs.declared.body.Stmt.{Stmt}
use Rattle.lucid_core.specs.declared.body.Touch.{Touch}
use Rattle.lucid_core.specs.declared.body.Expr.TheOpen.{Expr-F, Stmt-F, Touch-F}
use Rattle.lucid_core.specs.declared.body.Expr.TheViews.{roll-Expr, roll-Stmt, roll-Touch}
use Rattle.lucid_core.specs.declared.body.Expr.TheFolds.{ind-Expr, ind-Stmt, map-Expr, map-Stmt, map-Touch}

-- At each node, from the facts of its parts.
pub record Cases (P : Expr → Type 0) (Q : Stmt → Type 0) (R : Touch → Type 0) : Type 0 where
  pub expr : (y : Expr-F ((x : Expr) × P x) ((x : Stmt) × Q x) ((x : Touch) × R x)) →
      P (roll-Expr (map-Expr ((x : Expr) × P x) ((x : Stmt) × Q x) ((x : Touch) × R x) Expr Stmt Touch (λ p. p.0) (λ p. p.0) (λ p. p.0) y))
  pub stmt : (y : Stmt-F ((x : Expr) × P x) ((x : Stmt) × Q x) ((x : Touch) × R x)) →
      Q (roll-Stmt (map-Stmt ((x : Expr) × P x) ((x : Stmt) × Q x) ((x : Touch) × R x) Expr Stmt Touch (λ p. p.0) (λ p. p.0) (λ p. p.0) y))
  pub touch : (y : Touch-F ((x : Expr) × P x) ((x : Stmt) × Q x) ((x : Touch) × R x)) →
      R (roll-Touch (map-Touch ((x : Expr) × P x) ((x : Stmt) × Q x) ((x : Touch) × R x) Expr Stmt Touch (λ p. p.0) (λ p. p.0) (λ p. p.0) y))

pub expr_by : {P : Expr → Type 0} {Q : Stmt → Type 0} {R : Touch → Type 0} → Cases P Q R → (e : Expr) → P e
expr_by {P} {Q} {R} c = ind-Expr P Q R
    (λ e y is. subst (λ z. P (roll-Expr z)) is (c.expr y))
    (λ e y is. subst (λ z. Q (roll-Stmt z)) is (c.stmt y))
    (λ e y is. subst (λ z. R (roll-Touch z)) is (c.touch y))

pub stmt_by : {P : Expr → Type 0} {Q : Stmt → Type 0} {R : Touch → Type 0} → Cases P Q R → (e : Stmt) → Q e
stmt_by {P} {Q} {R} c = ind-Stmt P Q R
    (λ e y is. subst (λ z. P (roll-Expr z)) is (c.expr y))
    (λ e y is. subst (λ z. Q (roll-Stmt z)) is (c.stmt y))
    (λ e y is. subst (λ z. R (roll-Touch z)) is (c.touch y))

-- Statements with their facts.
proved : {Q : Stmt → Type 0} → ((x : Stmt) → Q x) → List Stmt → List ((x : Stmt) × Q x)
proved of ss = map (λ x. (x, of x)) ss

stmts-proved : {Q : Stmt → Type 0} (of : (x : Stmt) → Q x) (ss : List Stmt) → map (λ (p : (x : Stmt) × Q x). p.0) (proved of ss) ≡ ss
unfolding proved
stmts-proved of [] = refl
stmts-proved of (s ∷ ss) = ap (λ (rest : List Stmt). s ∷ rest) (stmts-proved of ss)

-- Of a body, from what holds of statements with their facts.
pub body_by : {P : Expr → Type 0} {Q : Stmt → Type 0} {R : Touch → Type 0} (B : List Stmt → Type 0) → Cases P Q R →
    ((ss : List ((x : Stmt) × Q x)) → B (map (λ p. p.0) ss)) → (ss : List Stmt) → B ss
body_by B c of ss = subst B (stmts-proved (stmt_by c) ss) (of (proved (stmt_by c) ss))

pub opened2 : {A B : Type 0} (P : A → B → Type 0) {a x : A} {b y : B} → a ≡ x → b ≡ y → P x y → P a b
opened2 P {a} {x} {b} {y} h1 h2 is = subst (λ q. P q b) (sym h1) (subst (λ q. P x q) (sym h2) is)

pub opened3 : {A B C : Type 0} (P : A → B → C → Type 0) {a x : A} {b y : B} {c z : C} → a ≡ x → b ≡ y → c ≡ z → P x y z → P a b c
opened3 P {a} {x} {b} {y} {c} {z} h1 h2 h3 is = subst (λ q. P q b c) (sym h1) (opened2 (P x) h2 h3 is)

pub opened4 : {A B C D : Type 0} (P : A → B → C → D → Type 0) {a x : A} {b y : B} {c z : C} {d w : D} → a ≡ x → b ≡ y → c ≡ z → d ≡ w → P x y z w → P a b c d
opened4 P {a} {x} {b} {y} {c} {z} {d} {w} h1 h2 h3 h4 is = subst (λ q. P q b c d) (sym h1) (opened3 (P x) h2 h3 h4 is)

pub opened5 : {A B C D F : Type 0} (P : A → B → C → D → F → Type 0) {a x : A} {b y : B} {c z : C} {d w : D} {e v : F} → a ≡ x → b ≡ y → c ≡ z → d ≡ w → e ≡ v → P x y z w v → P a b c d e
opened5 P {a} {x} {b} {y} {c} {z} {d} {w} {e} {v} h1 h2 h3 h4 h5 is = subst (λ q. P q b c d e) (sym h1) (opened4 (P x) h2 h3 h4 h5 is)
